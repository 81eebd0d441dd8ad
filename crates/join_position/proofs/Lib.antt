pub mod BackLemmas
pub mod PlaceLemmas
pub mod RowLemmas
pub mod ChainLemmas
pub mod FindLemmas
pub mod AloneLemmas
pub mod SettleLemmas
pub mod GivenLemmas
