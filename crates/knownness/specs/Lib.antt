pub mod Knownness
