pub mod Exact
pub mod Decimal
pub mod Names
pub mod Vectors
pub mod Places
pub mod Turns
pub mod Characters
