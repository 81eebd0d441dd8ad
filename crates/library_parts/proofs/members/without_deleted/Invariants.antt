use Rattle.parts_model.proofs.RemadeLemmas.{IsCopying}
use Rattle.library_parts.proofs.members.without_deleted.Given as goal

abbrev pub invariant-loop-place : goal.invariant-loop-place
invariant-loop-place l = IsCopying l.member.state l.place l.compact.state
