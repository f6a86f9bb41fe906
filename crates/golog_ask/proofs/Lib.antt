pub mod Closed
pub mod Reported
pub mod Taken
