pub mod Reading
pub mod Order
pub mod Answers
pub mod Least
