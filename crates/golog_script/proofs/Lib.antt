pub mod Gathered
pub mod Elements
pub mod Values
pub mod ScriptObjects
