pub mod Parties
pub mod Totals
pub mod Views
pub mod TurnSteps
pub mod SeatSteps
pub mod Acts
