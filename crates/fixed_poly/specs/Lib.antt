pub mod Horner
pub mod Exact
pub mod Text
pub mod Lines
pub mod Runs
pub mod inside
