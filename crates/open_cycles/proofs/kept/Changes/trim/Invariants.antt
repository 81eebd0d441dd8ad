use Rattle.std.proofs.Common.{◌≡◌}
use Rattle.open_cycles.proofs.kept.Changes.trim.Given as goal

abbrev pub invariant-loop-trimmed : goal.invariant-loop-trimmed
invariant-loop-trimmed l = l.self ≡ l.initial.self
