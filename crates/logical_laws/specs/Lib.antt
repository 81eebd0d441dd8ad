pub mod Mapped
pub mod Found
pub use Rattle.logical_model.specs.Bases
pub use Rattle.logical_model.specs.FilePaths
