-- What the contracts of the crate cite.
pub mod Entries
pub mod Compared
