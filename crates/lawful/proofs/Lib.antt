pub mod Lawful
pub mod Climb
pub mod Laws
pub mod Turns
pub mod Apply
pub mod Examples
