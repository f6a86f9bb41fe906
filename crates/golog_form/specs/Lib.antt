pub mod Faults
pub mod Gives
pub mod Parsing
pub mod Places
pub mod Printing
pub mod Shape
pub mod Spelling
pub mod Tokens
