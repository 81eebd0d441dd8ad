pub mod OrderLemmas
pub mod SortLemmas
pub mod PathLemmas
pub mod ChangeLemmas
pub use Rattle.record_fmt.proofs.HeldLemmas
pub use Rattle.record_fmt.proofs.LayoutLemmas
pub use Rattle.record_fmt.proofs.WrittenLemmas
