pub mod Counted
pub mod Closed
pub mod Grounded
pub mod Evaluated
pub mod Searched
pub mod Unblocked
