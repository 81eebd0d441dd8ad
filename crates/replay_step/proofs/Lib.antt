pub mod MoveLemmas
pub mod SavedLemmas
