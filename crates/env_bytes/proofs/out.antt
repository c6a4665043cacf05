-- Laws behind the proofs of `out`.
pub mod Froms
