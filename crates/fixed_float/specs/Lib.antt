pub mod Rows
pub mod Patterns
pub mod inside
