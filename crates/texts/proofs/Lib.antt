pub mod Changes
pub mod Texts
