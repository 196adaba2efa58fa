pub mod OpLine
pub mod Listing
pub mod Answers
