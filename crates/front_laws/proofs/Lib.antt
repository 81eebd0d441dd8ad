pub mod WellLemmas
pub mod SwitchLemmas
pub mod OutcomeLemmas
pub mod FrontLemmas
