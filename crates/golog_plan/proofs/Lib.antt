mod Awaiting
mod Carrying
mod Committing
mod Decisions
mod Following
mod Turning
mod Writing
