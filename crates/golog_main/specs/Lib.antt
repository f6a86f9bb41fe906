pub mod Runs
pub mod Searchless
pub mod Replayed
pub mod Chains
pub mod Plans
