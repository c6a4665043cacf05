pub mod Empty
pub mod Stores
pub mod Writes
