pub mod Empties
pub mod Moments
pub mod Books
pub mod Takings
pub mod Begins
pub mod PlacedLemmas
pub mod Opened
