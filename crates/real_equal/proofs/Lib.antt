pub mod Low
pub mod Cases
