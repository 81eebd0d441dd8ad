pub mod OpenStand
pub mod Kept
pub mod Reads
pub use Rattle.key_values.specs.KeyValues
