pub mod Results
pub mod Accepted
pub mod Codes
