-- What the contracts of the crate cite.
pub mod Matches
pub mod Tapes
pub mod Text
