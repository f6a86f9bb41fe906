pub mod Handed
pub mod Ending
