-- The laws that several proofs of the crate cite.
mod Steps
pub mod TreesBodies
pub mod TreesWalk
pub mod TreesLevels
pub mod TreesOutcome
pub mod TreesResolve
