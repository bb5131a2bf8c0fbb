pub mod Powers
pub mod LogLaws
