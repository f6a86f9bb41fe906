pub mod Fits
pub mod InWorlds
pub mod Laws
