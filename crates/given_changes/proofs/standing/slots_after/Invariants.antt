use Rattle.given_changes.proofs.StoodLemmas.{IsStanding}
use Rattle.given_changes.proofs.standing.slots_after.Given as goal

abbrev pub invariant-loop-g : goal.invariant-loop-g
invariant-loop-g l = IsStanding l.given l.member.state.slots l.g-index l.count
