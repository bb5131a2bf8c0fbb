-- What private functions alone cite.
pub mod Ends
pub mod Free
pub mod Reader
pub mod Pieces
