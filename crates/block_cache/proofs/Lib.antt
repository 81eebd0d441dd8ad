pub mod Finds
pub mod Forced
pub mod Keys
pub mod OneJournal
pub mod SizeLemmas
pub mod Stretches
pub mod Walking
