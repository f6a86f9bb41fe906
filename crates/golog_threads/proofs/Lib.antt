pub mod Lists
pub mod Refusals
pub mod Fitting
pub mod Turning
pub mod Driving
pub mod Gathering
pub mod Crossing
