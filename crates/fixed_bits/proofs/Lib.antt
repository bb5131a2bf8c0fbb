pub mod Lists
pub mod Bits
pub mod Counts
pub mod ByteLists
pub mod Words
