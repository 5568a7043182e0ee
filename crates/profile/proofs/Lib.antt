-- The laws that the proofs of the crate cite, and the theorem of what the operations return.
pub mod Lists
pub mod Turns
mod Trees
mod Standing
pub mod Operation
pub mod Returned
