pub mod Passes
pub mod Characters
pub mod Values
