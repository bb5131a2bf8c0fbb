pub mod Weights
pub mod Points
