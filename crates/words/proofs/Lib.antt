pub mod Digits
pub mod Planes
pub mod Lanes
pub mod Fill
pub mod Extend
pub mod Top
pub mod Shift
