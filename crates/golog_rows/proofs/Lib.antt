pub mod Each
pub mod Chain
pub mod LeastLaws
