mod AnswerLemmas
mod ChangeLemmas
mod FindLemmas
mod FormatLemmas
mod ImageLemmas
mod LockLemmas
mod MoveLemmas
mod OwnerLemmas
mod PlaceLemmas
mod ReadyLemmas
mod WriteLemmas
pub use Rattle.joint_state.proofs.ReadLemmas
