use Rattle.std.proofs.Common.{drop}
use Rattle.kept_journal.proofs.Following.{IsJudged}
use Rattle.kept_journal.proofs.waiting.may_follow.Given as goal

abbrev pub invariant-loop-entry : goal.invariant-loop-entry
invariant-loop-entry l = IsJudged l.last l.waiting l.entries l.reached l.bytes (drop l.entry-index l.entries)
