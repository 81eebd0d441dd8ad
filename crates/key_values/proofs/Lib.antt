pub mod AmongLemmas
pub mod ReadLemmas
