pub mod MovedLemmas
pub mod LimitSteps
