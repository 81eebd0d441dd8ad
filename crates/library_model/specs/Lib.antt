pub mod Named
pub mod SourceList
pub mod NeedsMemory
pub mod Ending
