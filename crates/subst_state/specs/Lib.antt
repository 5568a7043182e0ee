-- What the contracts of the crate cite.
pub mod Maps
pub mod Arguments
pub mod Output
