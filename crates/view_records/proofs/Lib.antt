pub mod ShownLemmas
pub mod GivenLemmas
pub mod FormatLemmas
pub use Rattle.logical_paths.proofs.DescribedLemmas
pub use Rattle.logical_paths.proofs.KeyLemmas
pub use Rattle.logical_paths.proofs.ViewLemmas
