pub mod Fronts
pub use Rattle.deposited_entries.specs.Deposits
