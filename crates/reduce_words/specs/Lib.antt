pub mod Fold
