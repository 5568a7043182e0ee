-- The laws that several proofs of the crate cite, and those that the crates above cite.
pub mod Walking
pub mod Right
