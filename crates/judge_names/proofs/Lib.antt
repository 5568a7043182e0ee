-- Laws of the comparison, for the proofs here and above.
pub mod Steps
mod Entries
pub mod Compared
