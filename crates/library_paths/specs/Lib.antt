pub mod AllPaths
pub mod KeptOnce
pub mod PathOwners
pub use Rattle.logical_laws.specs.Mapped
