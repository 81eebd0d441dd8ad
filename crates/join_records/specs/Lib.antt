pub mod Linked
pub mod ReadOver
pub mod Shown
pub use Rattle.join_rows.specs.NextRow
pub use Rattle.join_rows.specs.Numbers
pub use Rattle.join_rows.specs.Places
pub use Rattle.join_rows.specs.Rows
