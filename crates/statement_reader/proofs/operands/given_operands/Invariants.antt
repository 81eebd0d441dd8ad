use Rattle.std.proofs.Common.{◌≡◌, length}
use Rattle.statement_reader.specs.Lists.{each, with_front}
use Rattle.statement_reader.specs.Operands.{given_operand}
use Rattle.statement_reader.specs.Words.{words}
use Rattle.statement_reader.proofs.operands.given_operands.Given as goal

abbrev pub invariant-loop-word : goal.invariant-loop-word
invariant-loop-word l = with_front l.operands.items (each (given_operand l.variables) (words l.rest)) ≡ each (given_operand l.variables) (words l.text)

abbrev pub decreases-loop-word : goal.decreases-loop-word
decreases-loop-word l = length l.rest
