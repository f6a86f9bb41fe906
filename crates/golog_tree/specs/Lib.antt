pub mod Ground
pub mod Joined
pub mod Made
pub mod Nest
pub mod Numbered
pub mod Substitute
pub mod Tidy
