pub mod Journals
pub mod Outcomes
