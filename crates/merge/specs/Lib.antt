-- What the contracts of the crate cite.
pub mod Agree
pub mod Join
pub mod Ends
