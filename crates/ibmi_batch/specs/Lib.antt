pub mod Words
pub mod Numbers
pub mod Storing
pub mod Outcome
pub mod Parts
pub mod Opening
pub mod Seen
