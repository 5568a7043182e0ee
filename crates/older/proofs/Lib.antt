-- Laws of the operation.
pub mod Roots
pub mod Operation
