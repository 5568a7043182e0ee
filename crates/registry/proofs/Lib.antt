-- The laws that several proofs of the crate cite.
mod Codes
pub mod Steps
pub mod Standing
pub mod Verdicts
mod Answers
