pub mod Reduce
