-- The laws that the functions' proofs cite, and those that the crates above cite.
pub mod Steps
