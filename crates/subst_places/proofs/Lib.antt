-- The laws that several proofs of the crate and of those above cite.
pub mod Behind
pub mod Items
pub mod TreesBound
pub mod TreesFold
pub mod TreesWalk
pub mod TreesPlaces
pub mod TreesShape
pub mod TreesTable
pub mod Unread
