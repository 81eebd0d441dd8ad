pub mod FieldLemmas
pub mod SourceLemmas
pub mod PositionLemmas
pub mod RecordLemmas
