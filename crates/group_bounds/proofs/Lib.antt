pub mod CycleLemmas
pub mod SeenLemmas
pub mod WalkLemmas
pub mod EntryLemmas
pub mod ReverseLemmas
pub mod PartLemmas
