-- What the contracts of the crate cite.
pub mod Pick
pub mod Kind
pub mod Grammar
pub mod Provider
pub mod Words
pub mod Waits
pub mod Stack
pub mod Counts
