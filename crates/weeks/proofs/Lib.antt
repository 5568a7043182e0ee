-- Laws of the older tape, for the proofs here and above.
pub mod Heads
pub mod Entries
