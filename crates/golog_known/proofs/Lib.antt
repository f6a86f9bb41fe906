pub mod Arguments
pub mod Evaluated
pub mod Folds
pub mod InWorlds
