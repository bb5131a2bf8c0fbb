-- What private functions alone cite.
pub mod Alike
pub mod Steps
pub mod WideValue
pub mod Size
pub mod Turned
