pub mod Digits
pub mod Passes
