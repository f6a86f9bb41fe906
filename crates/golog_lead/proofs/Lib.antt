pub mod StepEntries
pub mod BegunRuns
mod RunsBegun
pub mod WrittenLines
pub mod RunsFit
pub mod Writing
pub mod Recorded
pub mod Printing
mod OneTurn
pub mod Adding
mod Serving
pub mod CommandsFew
pub mod EndLast
mod Over
mod Following
mod Rounding
mod Ending
pub mod Minds
pub mod Boarding
pub mod Copying
pub mod Placing
pub mod Resting
pub mod Growing
pub mod Taking
pub mod Turning
