pub mod Answered
pub mod Spans
pub mod Tail
pub mod Agreed
pub mod Walk
pub mod Places
