pub mod Entry
pub mod One
pub mod Room
