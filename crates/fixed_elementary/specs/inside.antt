-- What private functions alone cite.
pub mod Digits
pub mod Power
pub mod RecipParts
pub mod Reduced
pub mod Squaring
