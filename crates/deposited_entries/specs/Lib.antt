pub mod Deposits
pub mod Counted
pub mod Groups
pub mod Sequences
pub use Rattle.library_steps.specs.Change
pub use Rattle.library_steps.specs.History
pub use Rattle.library_steps.specs.State
pub use Rattle.library_steps.specs.Step
