pub mod PutLemmas
pub mod Rolling
pub mod Wholes
pub use Rattle.journal_opening.proofs.Books
