-- The house sheet: what it answers, and what is promised of it.
pub mod Sheet
pub mod Promises
pub mod Opens
pub mod Ends
