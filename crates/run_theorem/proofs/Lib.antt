pub mod Plain
pub mod Inputs
pub mod Refinement
pub mod Demand
pub mod Case
