-- Laws of work areas, for the proofs here and above.
-- Assumes nothing.
pub mod Room
pub mod Within
pub mod Appends
pub mod Generated
pub mod Patch
pub mod Tape
