pub mod Absurd
pub mod NoTable
pub mod Laws
pub mod Sharing
pub mod Resting
pub mod Driving
pub mod Gathering
pub mod Running
