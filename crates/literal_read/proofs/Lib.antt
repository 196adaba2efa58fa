pub mod Sizes
pub mod Runs
pub mod Behind
pub mod Grammar
