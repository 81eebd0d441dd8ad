use Rattle.std.proofs.Common.{drop}
use Rattle.kept_journal.proofs.Putting.{IsPutting}
use Rattle.kept_journal.proofs.journal.put_all.Given as goal

abbrev pub invariant-loop-entry : goal.invariant-loop-entry
invariant-loop-entry l = IsPutting l.fn.book l.book l.entries (drop l.entry-index l.entries)
