pub mod FoundLemmas
pub mod MemberLemmas
pub mod EntryLemmas
pub mod OrderLemmas
pub mod SearchLemmas
pub mod ChangeLaws
