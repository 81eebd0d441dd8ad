pub mod Characters
pub mod Decimal
pub mod Lines
pub use Rattle.field_types.specs.SystemName
