-- What the contracts of the crate cite.
pub mod Reading
pub mod Writing
pub mod Walk
