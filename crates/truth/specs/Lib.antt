pub mod Truth
pub mod Logic
