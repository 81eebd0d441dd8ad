pub mod FormatLemmas
pub mod RepeatedLemmas
pub mod WalkLemmas
