mod Turns
mod Halves
pub mod Squarings
pub mod Reading
pub mod LogLaws
pub mod Powers
mod Groups
mod Eights
pub mod Raised
mod ExpLaws
mod Returned
pub mod Rows
pub mod Chains
mod Tables
mod Reduced
mod Rests
mod Closing
mod Nears
pub mod Above
