-- What the contracts of the crate cite.
pub mod Write
pub mod Names
