pub mod Spread
pub mod Heads
pub mod Narrowed
pub mod Placed
pub mod Bound
pub mod Affected
pub mod Ruled
pub mod Rolled
