pub mod Faults
pub mod Spelled
pub mod Conditions
pub mod Laws
