pub mod Formats
pub mod Repeated
