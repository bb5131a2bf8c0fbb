-- What laws of impls and private functions alone cite.
pub mod Saturated
pub mod WholeBeside
