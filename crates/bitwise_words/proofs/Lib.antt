pub mod Operands
pub mod Inverted
