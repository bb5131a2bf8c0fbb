pub mod Fronts
pub mod Fours
pub mod Tested
pub mod Sums
pub mod Signs
pub mod Parts
