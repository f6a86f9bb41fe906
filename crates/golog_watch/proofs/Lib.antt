pub mod Keeping
pub mod Opening
pub mod Telling
