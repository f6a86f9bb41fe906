pub mod Limits
pub mod Keywords
pub mod Procedures
pub mod Callees
pub mod Constructs
pub mod Programs
pub mod Items
