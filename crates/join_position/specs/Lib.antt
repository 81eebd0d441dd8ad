pub mod RowStand
pub mod Kept
pub mod RowReads
pub use Rattle.open_position.specs.OpenStand
pub use Rattle.open_position.specs.Reads
