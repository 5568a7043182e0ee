-- The laws that several proofs of the crate cite.
pub mod Terms
pub mod TreesConcrete
