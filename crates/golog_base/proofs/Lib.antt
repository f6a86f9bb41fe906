pub mod Amounts
pub mod Bools
pub mod KnownLemmas
pub mod MemFilesLemmas
pub mod WordLemmas
