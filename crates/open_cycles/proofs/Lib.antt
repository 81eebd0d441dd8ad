pub mod KeptLemmas
pub mod LastLemmas
pub mod ReadLemmas
