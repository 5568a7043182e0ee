-- Laws of bytes in buffers, for the proofs here and above.
-- Assumes nothing.
pub mod Decides
pub mod Numbers
pub mod Sets
pub mod Kept
pub mod Zeros
pub mod Messages
pub mod Lent
pub mod Decimals
