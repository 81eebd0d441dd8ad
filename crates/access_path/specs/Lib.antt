pub mod KeptEntries
pub mod Moves
pub mod PathBytes
pub mod Rebuilding
pub mod Clash
pub use Rattle.key_order.specs.GivenValues
pub use Rattle.key_order.specs.KeyBytes
pub use Rattle.key_order.specs.KeyFields
