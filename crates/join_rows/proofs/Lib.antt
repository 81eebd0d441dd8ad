mod OptionLemmas
mod LevelLemmas
mod NextLemmas
mod WantedLemmas
mod SortedLemmas
mod MatchLemmas
mod WalkLemmas
mod SearchLemmas
mod SoughtLemmas
mod PlaceLemmas
mod JoinedLemmas
mod OrderLemmas
mod StepLemmas
mod KeyLemmas
mod BackLemmas
mod TrialLemmas
mod BelowLemmas
mod EntryLemmas
mod PrimaryLemmas
mod SequenceLemmas
mod StandLemmas
pub use Rattle.file_cursor.proofs.EntryLemmas as FileCursorEntryLemmas
pub use Rattle.file_cursor.proofs.ListLemmas
pub use Rattle.file_cursor.proofs.RoomLemmas
pub use Rattle.file_cursor.proofs.SideLemmas
