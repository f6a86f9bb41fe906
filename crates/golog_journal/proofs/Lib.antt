pub mod Lawful
pub mod Outstanding
pub mod Tallied
pub mod Pushing
pub mod PostsLawful
pub mod Answered
pub mod Sensing
pub mod FactsMade
pub mod Staying
pub mod Serving
pub mod Alone
pub mod Beginning
pub mod Filling
pub mod Views
pub mod CommandsKept
pub mod Reaching
mod Quieting
