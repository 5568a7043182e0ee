-- What the contracts of the crate cite, and what an empty list promises.
pub mod Rows
pub mod Returned
