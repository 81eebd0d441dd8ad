pub mod ApartLemmas
pub mod EqualLemmas
pub mod OperandLemmas
pub mod ShownLemmas
pub mod StoreLemmas
pub mod TextLemmas
pub use Rattle.file_model.proofs.OrderLemmas
pub use Rattle.file_model.proofs.PathLemmas
