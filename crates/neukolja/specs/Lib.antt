-- What the contracts of the crate cite, and what is promised of what C is answered.
pub mod Words
pub mod Ends
