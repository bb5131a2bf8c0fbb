pub mod Blocks
pub mod Dots
