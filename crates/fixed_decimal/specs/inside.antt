-- What private functions alone cite.
pub mod Reading
pub mod Stepped
pub mod Close
