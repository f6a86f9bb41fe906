pub mod Reading
pub mod Judged
pub mod Effects
pub mod Changes
pub mod Wanted
pub mod Ways
pub mod Followed
pub mod Traced
