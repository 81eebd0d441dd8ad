pub use Rattle.parts_model.proofs.AnswerLemmas
pub use Rattle.parts_model.proofs.DepositLemmas
pub use Rattle.parts_model.proofs.FindLemmas
pub use Rattle.parts_model.proofs.GivenLemmas
pub use Rattle.parts_model.proofs.PlaceLemmas
pub use Rattle.parts_model.proofs.UnderLemmas
