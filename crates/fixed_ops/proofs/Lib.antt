pub mod Walks
pub mod FirstParts
pub mod Roots
