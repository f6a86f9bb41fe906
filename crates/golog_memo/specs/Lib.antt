pub mod Codes
pub mod Numbered
pub mod Placed
