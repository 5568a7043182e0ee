-- The theorems first, then what the proofs of functions cite.
pub mod Promises
pub mod Exactly
pub mod Opens
pub mod Ends
pub mod Front
pub mod Opening
pub mod Stepping
