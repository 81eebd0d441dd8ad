pub mod ResultLemmas
pub mod CutLemmas
pub mod NamedLemmas
pub mod WorkLemmas
pub mod HistoryLemmas
pub mod StopLemmas
pub use Rattle.joint_state.proofs.OpenLemmas
