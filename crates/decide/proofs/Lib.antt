pub mod Fits
pub mod Scan
pub mod Settled
