pub mod Built
pub mod Steps
pub mod Copies
pub use Rattle.library_parts.specs.Remembered
