-- What the contracts of the crate cite: the body check's definitions said of a place on a tape. Only proofs see them.
pub mod Walk
