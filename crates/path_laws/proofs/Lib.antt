pub mod TestLemmas
pub mod FieldLemmas
pub mod RuleLemmas
pub mod PathLemmas
pub mod CountLemmas
pub mod DifferentLemmas
