pub mod TableLemmas
pub mod OpenLemmas
pub mod UserLemmas
pub use Rattle.join_position.proofs.FindLemmas
pub use Rattle.file_cursor.proofs.KeylessLemmas
