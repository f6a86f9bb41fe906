pub mod Decided
pub mod Laws
pub mod BlockSteps
pub mod Weighing
pub mod Kept
pub mod Steady
pub mod Told
