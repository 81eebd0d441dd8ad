pub mod HistoryLemmas
pub use Rattle.cycles_kept.proofs.HoldLemmas
pub use Rattle.cycles_kept.proofs.ImageLemmas
pub use Rattle.cycles_kept.proofs.JobLemmas
pub use Rattle.cycles_kept.proofs.PlaceLemmas
pub use Rattle.cycles_kept.proofs.PutLemmas
pub use Rattle.cycles_kept.proofs.RecordSteps
