pub mod Constructors
