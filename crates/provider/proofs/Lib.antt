-- Laws of the operations.
mod Codes
mod Turned
pub mod Operation
