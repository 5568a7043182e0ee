-- The laws that several proofs of the crate cite.
mod TreesCalls
mod TreesOwn
pub mod TreesRight
pub mod Walking
