pub mod Grown
pub mod Walk
