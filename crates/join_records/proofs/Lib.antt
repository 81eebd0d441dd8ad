pub mod EntryLemmas
pub mod DescribedLemmas
pub mod SameLemmas
pub mod ReadLemmas
pub mod RowLemmas
pub mod ShownLemmas
