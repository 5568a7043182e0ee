-- What the contracts of the crate cite.
pub mod Parameters
pub mod Refines
