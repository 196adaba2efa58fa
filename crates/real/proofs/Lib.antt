pub mod Near
pub mod Fields
pub mod Wrap
pub mod Cases
