pub mod Root
pub mod inside
