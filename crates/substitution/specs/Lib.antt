-- What the contracts of the crate cite.
pub mod Demand3
pub mod ArgumentSize
pub mod Substituted
