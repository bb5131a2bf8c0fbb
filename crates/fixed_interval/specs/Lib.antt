pub mod Ends
pub mod Containment
pub mod Text
pub mod Lines
pub mod Runs
pub mod inside
