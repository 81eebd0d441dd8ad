pub mod AnsweredLemmas
pub mod GrownLemmas
pub mod OutcomeLemmas
pub mod BeginLemmas
