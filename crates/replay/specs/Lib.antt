pub mod Text
pub mod Fields
pub mod Calls
pub mod Report
