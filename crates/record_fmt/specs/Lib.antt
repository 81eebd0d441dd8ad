pub mod Choice
pub mod Layout
pub mod Records
pub use Rattle.field_values.specs.FieldBytes
pub use Rattle.field_values.specs.FieldTypes
pub use Rattle.field_values.specs.FirstBad
