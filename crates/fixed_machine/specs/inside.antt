-- What private functions alone cite.
pub mod Buffers
pub mod Lines
pub mod Moves
pub mod Opened
pub mod Quick
pub mod QuickSteps
pub mod Stepping
pub mod Groups
