pub mod ListOrder
pub mod NumberOrder
pub mod FitLemmas
pub mod KeyLemmas
pub mod ValueLemmas
pub mod WidthLemmas
pub mod ViewLemmas
pub use Rattle.file_model.proofs.OrderLemmas
pub use Rattle.file_model.proofs.PathLemmas
pub use Rattle.file_model.proofs.SortLemmas
pub use Rattle.key_pages.proofs.OrderLemmas as KeyPagesOrderLemmas
pub use Rattle.key_pages.proofs.SideLemmas
