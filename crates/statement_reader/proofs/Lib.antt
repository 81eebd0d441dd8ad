pub mod ListLemmas
pub mod NumberLemmas
pub mod VariableLemmas
pub mod WordLemmas
