pub mod Demand
pub mod Refinement
