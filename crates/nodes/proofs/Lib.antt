-- The laws that the functions' proofs cite, and those that the crates above cite.
pub mod Items
pub mod Rows
pub mod Held
pub mod Entries
pub mod Placed
pub mod Texts
