pub use Rattle.restart_model.specs.Libraries
pub use Rattle.restart_model.specs.Sources
