pub mod Located
pub mod Holding
pub mod Counting
pub mod Moves
pub mod Turns
pub mod Passing
pub mod Trees
mod Found
pub mod SmallTrees
mod Shapes
pub mod Skipping
mod Typed
mod Places
pub mod Acceptance
pub mod Runs
pub mod Roots
mod ProviderTrees
pub mod ProviderRoots
