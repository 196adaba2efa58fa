pub mod Vector
pub mod Planes
