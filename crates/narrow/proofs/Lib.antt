pub mod Singles
pub mod Operands
pub mod Operators
pub mod Answered
pub mod Comparisons
