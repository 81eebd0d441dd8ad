pub mod Placing
pub mod Spelling
pub mod Reading
pub mod Writing
pub mod Drafts
pub mod SlotChange
