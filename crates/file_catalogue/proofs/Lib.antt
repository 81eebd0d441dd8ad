pub mod MapLemmas
pub mod KeyedLemmas
pub mod OwnMemberLemmas
pub mod BaseLemmas
pub mod CallerLemmas
pub use Rattle.physical_paths.proofs.PositionLemmas
pub use Rattle.physical_paths.proofs.RecordLemmas
