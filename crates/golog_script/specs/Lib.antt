pub mod Codes
pub mod Limits
pub mod Reading
pub mod DevicesFile
pub mod ScriptTexts
pub mod Meanings
