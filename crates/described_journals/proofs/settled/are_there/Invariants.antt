use Rattle.std.proofs.Common.{length}
use Rattle.std.specs.List.{AllByRecursion}
use Rattle.described_journals.specs.Kept.{IsThere}
use Rattle.described_journals.proofs.settled.are_there.Given as goal

abbrev pub invariant-loop-rest : goal.invariant-loop-rest
invariant-loop-rest l = AllByRecursion (IsThere l.files) l.rest → AllByRecursion (IsThere l.files) l.others

abbrev pub decreases-loop-rest : goal.decreases-loop-rest
decreases-loop-rest l = length l.rest
