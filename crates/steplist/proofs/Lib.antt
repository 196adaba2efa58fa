pub mod Names
pub mod Exactly
pub mod Parts
pub mod Listed
pub mod Whole
pub mod Cases
