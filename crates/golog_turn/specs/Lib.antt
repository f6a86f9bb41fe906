pub mod Parties
pub mod Acts
pub mod Turns
pub mod Steps
pub mod Seats
pub mod Rests
