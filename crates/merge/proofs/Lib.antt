-- The laws that several proofs of the crate cite.
pub mod Steps
pub mod Agreeing
pub mod Joining
pub mod Answering
pub mod Operation
