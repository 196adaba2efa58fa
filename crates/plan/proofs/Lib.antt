pub mod Named
pub mod Headers
pub mod Steps
