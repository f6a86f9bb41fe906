pub mod Substituted
mod Copied
mod EqualArguments
mod Tells
pub mod Decoded
pub mod EqualConditions
pub mod EqualPrograms
pub mod Items
pub mod Numbers
pub mod Places
