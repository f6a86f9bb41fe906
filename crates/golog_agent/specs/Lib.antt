pub mod UnderWay
pub mod Laws
pub mod Turns
pub mod Keeping
pub mod Planned
pub mod Deciding
pub mod Leading
pub mod Configuration
