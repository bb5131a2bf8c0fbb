pub mod Between
pub mod Sine
