mod StepsKept
mod Awaiting
mod Growth
mod Planning
mod Fueling
mod Committing
mod Taking
mod Turning
mod Leading
mod Stepping
mod KeptDecision
pub mod Crossing
