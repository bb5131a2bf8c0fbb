pub mod Logarithm
pub mod inside
