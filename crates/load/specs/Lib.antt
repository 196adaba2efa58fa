pub mod Inputs
pub mod Limits
