use Rattle.std.proofs.Common.{◌+◌}
use Rattle.path_set.specs.Entries.{change_of}
use Rattle.path_set.proofs.PrepareLemmas.{IsPreparing}
use Rattle.path_set.proofs.kept.Kept.prepare.Given as goal

abbrev pub invariant-loop-format : goal.invariant-loop-format
invariant-loop-format l = IsPreparing l.fn.self (change_of l.asked) (l.asked.held + 2) l.fn.moves l.format l.moves l.self
