pub mod Turns
pub mod Thin
pub mod Shown
pub mod Loops
