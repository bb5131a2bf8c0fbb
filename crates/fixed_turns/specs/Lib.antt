pub mod Angles
pub mod RadianAngles
pub mod Radians
pub mod Series
pub mod Sines
pub mod inside
