-- The laws that the proofs of the crate cite.
pub mod Own
pub mod Operation
