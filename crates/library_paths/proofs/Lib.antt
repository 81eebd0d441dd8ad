pub mod ListLemmas
pub mod CountLemmas
pub mod NumberLemmas
pub mod KeptLemmas
pub mod NameLemmas
pub mod BaseLemmas
pub mod PathsLemmas
pub mod OverLemmas
pub mod OwnerLemmas
pub use Rattle.logical_laws.proofs.ListLemmas as LogicalLawsListLemmas
pub use Rattle.logical_laws.proofs.MappedLemmas
pub use Rattle.logical_laws.proofs.SameLemmas
pub use Rattle.logical_laws.proofs.SomeLemmas
pub use Rattle.path_laws.proofs.PathLemmas
