-- The laws that several proofs of the crate, and of the operations, cite.
pub mod Ends
pub mod Operations
