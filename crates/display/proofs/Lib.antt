pub mod DisplayLemmas
pub mod MemberLemmas
