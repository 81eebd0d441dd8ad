pub mod ListLemmas
pub mod SameLemmas
pub mod FoundLemmas
pub mod GivenLemmas
pub mod MappedLemmas
pub mod SomeLemmas
pub use Rattle.field_laws.proofs.AcceptedLemmas
pub use Rattle.field_laws.proofs.WrittenLemmas
