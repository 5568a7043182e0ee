-- The laws that several proofs of the crate cite.
mod Counts
mod Operation
pub mod Steps
mod TreesWhole
