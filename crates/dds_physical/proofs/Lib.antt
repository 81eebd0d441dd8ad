pub mod FaultLemmas
pub mod DescribedLemmas
pub mod LineLemmas
pub mod FirstLemmas
pub mod LawLemmas
pub mod OrderLemmas
