-- The laws that the functions' proofs cite, and those that the crates above cite.
pub mod Writing
pub mod Less
mod Sorted
pub mod Listing
pub mod Params
