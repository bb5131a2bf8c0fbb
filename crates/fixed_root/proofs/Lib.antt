mod Exacts
mod Squares
mod Digits
mod Turns
mod Doubled
pub mod RootLaws
mod Scaled
