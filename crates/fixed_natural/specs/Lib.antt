pub mod Bases
pub mod Exps
pub mod Logs
pub mod Pows
pub mod inside
