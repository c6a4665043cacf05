pub mod Basis
pub mod Form
pub mod Out
pub mod Names
