pub mod Form
pub mod Agree
pub mod Case
pub mod Shift
pub mod Laws
pub mod Lengths
pub mod Meaning
