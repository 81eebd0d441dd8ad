pub use Rattle.dds_physical.proofs.DescribedLemmas
pub use Rattle.dds_physical.proofs.FaultLemmas
