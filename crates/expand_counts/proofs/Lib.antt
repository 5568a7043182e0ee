-- The laws that several proofs of the crate cite, and those that the crates above cite.
pub mod Steps
pub mod Adding
mod Raising
mod Items
pub mod Counted
