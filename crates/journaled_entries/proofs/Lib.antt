pub mod DepositedLemmas
