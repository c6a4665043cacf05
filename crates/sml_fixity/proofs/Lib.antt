pub mod Changes
pub mod Fixities
pub mod Journals
pub mod Parts
pub mod Scan
pub mod Scopes
pub mod Stores
