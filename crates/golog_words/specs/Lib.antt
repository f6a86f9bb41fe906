pub mod Answers
pub mod Commands
pub mod Found
pub mod Said
