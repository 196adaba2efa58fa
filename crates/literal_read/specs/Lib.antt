pub mod Literal
pub mod Answers
