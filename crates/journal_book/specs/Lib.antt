pub mod Bodies
pub mod Book
pub mod Entries
pub mod Kept
pub mod Openings
pub mod Reads
pub mod Searches
pub mod Switch
