pub mod Scan
pub mod Number
