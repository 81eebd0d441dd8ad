pub mod ReadingLemmas
pub mod GivenLemmas
pub mod BreakLemmas
pub mod WayLemmas
pub mod RemoveLemmas
pub mod CommandLemmas
pub mod PutLemmas
