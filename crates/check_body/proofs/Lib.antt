-- What the crates above cite, and the laws of the operation.
pub mod Definitions
pub mod Operation
