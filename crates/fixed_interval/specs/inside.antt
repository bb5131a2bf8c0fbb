-- What only private functions cite.
pub mod Capped
pub mod SignedMagnitudes
pub mod OffZero
pub mod Parser
