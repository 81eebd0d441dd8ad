pub mod Journals
pub mod Takings
pub mod Begins
