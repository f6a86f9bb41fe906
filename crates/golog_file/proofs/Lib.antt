pub mod Answers
pub mod Excluded
pub mod Signatures
pub mod Asked
mod Ranges
pub mod CondExcluded
mod CondAnswers
