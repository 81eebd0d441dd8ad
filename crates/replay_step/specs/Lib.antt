pub mod Moves
pub mod Saved
