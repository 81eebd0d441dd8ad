use Rattle.std.proofs.Common.{◌≡◌, length}
use Rattle.restarted_library.specs.Copies.{with_all}
use Rattle.restarted_library.proofs.copies.add_all.Given as goal

abbrev pub invariant-loop-rest : goal.invariant-loop-rest
invariant-loop-rest l = with_all l.rest l.member.state ≡ with_all l.slots l.fn.member.state

abbrev pub decreases-loop-rest : goal.decreases-loop-rest
decreases-loop-rest l = length l.rest
