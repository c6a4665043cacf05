-- Laws behind the proofs of `names`.
pub mod Listed
pub mod Picked
pub mod Among
pub mod Ordered
pub mod Reduced
