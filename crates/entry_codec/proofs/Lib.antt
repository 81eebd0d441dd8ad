pub mod FieldLemmas
pub mod Lengths
pub mod Laws
pub mod NameLaws
pub mod KindLaws
pub mod EntryLaws
