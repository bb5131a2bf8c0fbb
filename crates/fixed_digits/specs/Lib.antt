pub mod Numerals
pub mod inside
