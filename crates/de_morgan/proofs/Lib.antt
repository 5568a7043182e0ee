-- Laws of the rewritten tape.
pub mod Sides
pub mod Among
pub mod Heads
pub mod Becoming
pub mod Rewritten
pub mod Last
