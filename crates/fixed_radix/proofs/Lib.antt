pub mod Powers
pub mod Shown
pub mod Units
pub mod Prints
