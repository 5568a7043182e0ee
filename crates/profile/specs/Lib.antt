-- What the contracts of the crate cite.
pub mod Spans
pub mod Entries
pub mod Returned
