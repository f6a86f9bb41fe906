mod Back
mod BackParts
mod Evaluation
pub mod Events
mod Fresh
mod Heads
mod ImageParts
mod Imaged
mod Layers
mod Read
mod Related
mod Untouched
