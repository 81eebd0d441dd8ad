use Rattle.std.proofs.Common.{◌≡◌, take}
use Rattle.logical_paths.proofs.copies.copied_statements.Given as goal

abbrev pub invariant-loop-statement : goal.invariant-loop-statement
invariant-loop-statement l = l.copies ≡ take l.statement-index l.statements
