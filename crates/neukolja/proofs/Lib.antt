-- The theorem, and the law that the proofs of the crate cite.
pub mod WordsWith
pub mod Ends
