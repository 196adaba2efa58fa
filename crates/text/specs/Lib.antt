pub mod Read
pub mod Write
pub mod Exact
pub mod Answers
