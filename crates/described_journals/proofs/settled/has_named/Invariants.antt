use Rattle.std.proofs.Common.{◌≡◌, length}
use Rattle.described_journals.specs.Kept.{has_named}
use Rattle.described_journals.proofs.settled.has_named.Given as goal

abbrev pub invariant-loop-rest : goal.invariant-loop-rest
invariant-loop-rest l = has_named l.name l.rest ≡ has_named l.name l.others

abbrev pub decreases-loop-rest : goal.decreases-loop-rest
decreases-loop-rest l = length l.rest
