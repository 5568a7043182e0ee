-- The theorem first, then the laws that several proofs of the crate cite.
pub mod Returned
pub mod Steps
mod AsGiven
mod Standing
pub mod Operation
