pub mod Lengths
pub mod Characters
pub mod RoundTrip
pub mod Cases
