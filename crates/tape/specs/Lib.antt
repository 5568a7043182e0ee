-- What the contracts of the crate cite.
pub mod Pick
pub mod Layouts
pub mod Ors
pub mod Header
pub mod Skip
pub mod Scan
pub mod Flat
pub mod Turn
pub mod Accept
