pub mod Through
pub use Rattle.logical_paths.specs.KeyedViews
pub use Rattle.logical_paths.specs.Steps
