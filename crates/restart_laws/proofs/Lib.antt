pub mod CatalogueLemmas
pub mod RestartedLemmas
pub mod DescribedLemmas
pub mod ReferenceLemmas
pub mod StableLemmas
pub mod ViewLemmas
pub mod HeldLemmas
pub mod GoesLemmas
pub mod StandLemmas
pub mod LengthLemmas
pub mod RoomLemmas
pub mod SilentLemmas
pub mod LeftLemmas
pub mod KeptLemmas
pub mod LibraryLemmas
pub mod SoundLemmas
pub use Rattle.library_kept.proofs.CatalogueLemmas as LibraryKeptCatalogueLemmas
pub use Rattle.library_kept.proofs.ChangeLemmas
pub use Rattle.library_kept.proofs.EmptyLemmas
pub use Rattle.library_kept.proofs.FieldLemmas
pub use Rattle.library_kept.proofs.ListLemmas
pub use Rattle.library_kept.proofs.PlanLemmas
pub use Rattle.library_kept.proofs.RangeLemmas
pub use Rattle.library_kept.proofs.RequestLemmas
pub use Rattle.library_kept.proofs.ResultLemmas
pub use Rattle.library_kept.proofs.SlotLemmas
pub use Rattle.library_kept.proofs.StandLemmas as LibraryKeptStandLemmas
pub use Rattle.library_kept.proofs.WorkLemmas
