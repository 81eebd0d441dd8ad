pub mod SplitLemmas
pub mod SoFarLemmas
pub mod KindLemmas
pub mod LeftLemmas
pub mod TestLemmas
pub mod LimitLemmas
pub mod WholeLemmas
pub mod EmptyLemmas
