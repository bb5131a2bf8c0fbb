pub mod Counts
pub mod Logs
pub mod Ranges
pub mod Roots
pub mod Sized
pub mod Wides
pub mod Prints
pub mod StrictRows
