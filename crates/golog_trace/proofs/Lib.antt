pub mod Read
pub mod Said
pub mod Matched
pub mod WaysTold
pub mod BlocksTold
pub mod Following
pub mod Lines
