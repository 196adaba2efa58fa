pub mod Turns
pub mod Fitted
pub mod Loops
