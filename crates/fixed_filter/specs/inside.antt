-- What private functions alone cite.
pub mod Capped
pub mod Headroom
pub mod Kept
pub mod Parser
