pub mod Causes
pub mod Images
pub mod Regressed
pub mod Regression
pub mod Size
pub mod Touched
