-- What private functions alone cite.
pub mod Parser
pub mod OpGroups
