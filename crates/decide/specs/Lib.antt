pub mod Rule
pub mod Decide
