pub mod Parts
pub mod Joins
pub mod Made
pub mod Agreeing
