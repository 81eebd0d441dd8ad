pub mod Blanks
pub mod Journal
