pub mod Levels
pub mod Numbers
pub mod Rows
pub mod Finding
pub mod InWorlds
pub mod Visits
pub mod Batches
