-- The laws that several proofs of the crate cite.
pub mod Steps
pub mod Operation
pub mod Demand3
pub mod ArgumentSize
pub mod TreesAccepted
