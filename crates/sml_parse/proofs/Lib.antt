pub mod Whole
pub mod Answers
