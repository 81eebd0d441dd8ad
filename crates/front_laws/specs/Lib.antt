pub mod Opens
pub use Rattle.replayed_histories.specs.Replayed
pub use Rattle.replayed_histories.specs.Unsaved
pub use Rattle.journal_fronts.specs.Deposits
pub use Rattle.journal_fronts.specs.Fronts
