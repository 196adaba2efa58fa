pub mod Gather
pub mod Marks
pub mod Places
pub mod ByWords
pub mod Scan
pub mod Parity
pub mod Folds
