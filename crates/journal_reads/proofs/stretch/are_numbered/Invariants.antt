use Rattle.std.proofs.Common.{◌≡◌, ◌+◌, length}
use Rattle.journal_model.specs.Journal.{AreNumbered}
use Rattle.journal_reads.proofs.stretch.are_numbered.Given as goal

abbrev pub invariant-loop-rest : goal.invariant-loop-rest
invariant-loop-rest l =
    (AreNumbered l.next l.rest → AreNumbered l.first l.entries) × (AreNumbered l.first l.entries → AreNumbered l.next l.rest)
    × (l.next + length l.rest ≡ l.first + length l.entries)

abbrev pub decreases-loop-rest : goal.decreases-loop-rest
decreases-loop-rest l = length l.rest
