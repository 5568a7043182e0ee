-- The laws that several proofs of the crate cite.
pub mod Measured
pub mod TreesFront
