pub mod Words
pub mod Values
pub mod Choices
pub mod Commands
pub mod Parameters
pub mod EntryTypes
pub mod Answers
