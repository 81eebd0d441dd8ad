pub use Rattle.dds_logical.proofs.CompleteLemmas
