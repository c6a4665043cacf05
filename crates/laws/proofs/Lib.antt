pub mod Flat
pub mod Pairs
