pub mod Opened
pub use Rattle.kept_library.specs.Parts
pub use Rattle.kept_library.specs.Stands
pub use Rattle.restarted_journal.specs.Restarts
