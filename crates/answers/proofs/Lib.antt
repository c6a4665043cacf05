pub mod Finds
pub mod Hands
pub mod Starts
