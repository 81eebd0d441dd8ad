pub mod Deposited
pub use Rattle.journal_model.specs.Acts
pub use Rattle.journal_model.specs.AtSequence
pub use Rattle.journal_model.specs.Images
pub use Rattle.journal_model.specs.Journal
pub use Rattle.journal_model.specs.Places
pub use Rattle.journal_model.specs.Replay
pub use Rattle.journal_model.specs.Rollback
