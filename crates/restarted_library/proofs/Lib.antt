pub mod CopyLemmas
pub mod BuiltLemmas
pub mod FitLemmas
pub mod StepLemmas
pub mod WalkLemmas
pub mod LeftLemmas
