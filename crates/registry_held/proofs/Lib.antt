-- The laws that several proofs of the crate cite.
mod Registries
