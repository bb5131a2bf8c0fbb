pub mod Answered
pub mod Conditions
pub mod OneRow
pub mod Fitting
pub mod Guarded
pub mod Policies
pub mod Rows
