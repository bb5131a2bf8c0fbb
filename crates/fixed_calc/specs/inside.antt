-- What private functions alone cite.
pub mod Commands
pub mod Draws
pub mod ReadFaults
pub mod Spelling
