pub mod Entries
pub mod EnvBytes
pub mod Fix
pub mod Names
pub mod Table
