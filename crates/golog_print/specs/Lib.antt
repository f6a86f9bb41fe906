pub mod Printing
pub mod ReadBack
