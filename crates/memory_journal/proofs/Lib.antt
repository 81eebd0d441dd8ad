pub mod BlankLemmas
pub mod DepositLemmas
