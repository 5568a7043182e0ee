-- The laws that several proofs of the crate, and of the walks above, cite.
pub mod Steps
pub mod Items
