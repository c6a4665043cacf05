pub mod Ends
pub mod Records
pub mod Steps
