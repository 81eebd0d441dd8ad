pub mod Described
pub mod Parts
pub mod Keyed
pub mod Views
pub mod Bodies
pub mod OwnMembers
pub use Rattle.physical_paths.specs.KeyedFiles
