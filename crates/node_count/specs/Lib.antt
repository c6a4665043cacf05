pub mod Counts
pub mod Log
