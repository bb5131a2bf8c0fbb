-- What private functions alone cite.
pub mod LogArgument
pub mod Powers
