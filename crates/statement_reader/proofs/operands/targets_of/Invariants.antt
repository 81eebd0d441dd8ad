use Rattle.std.proofs.Common.{◌≡◌, length}
use Rattle.statement_reader.specs.Lists.{each, with_front}
use Rattle.statement_reader.specs.Operands.{variable_of}
use Rattle.statement_reader.specs.Words.{words}
use Rattle.statement_reader.proofs.operands.targets_of.Given as goal

abbrev pub invariant-loop-word : goal.invariant-loop-word
invariant-loop-word l = with_front l.targets.items (each (variable_of l.variables) (words l.rest)) ≡ each (variable_of l.variables) (words l.text)

abbrev pub decreases-loop-word : goal.decreases-loop-word
decreases-loop-word l = length l.rest
