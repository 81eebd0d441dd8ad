pub mod Rollbacks
pub use Rattle.journal_opening.specs.Journals
