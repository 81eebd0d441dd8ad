use Rattle.std.proofs.Common.{◌≡◌, length}
use Rattle.statement_reader.specs.Parameters.{given}
use Rattle.statement_reader.specs.Words.{words}
use Rattle.statement_reader.proofs.parameters.given.Given as goal

abbrev pub invariant-loop-word : goal.invariant-loop-word
invariant-loop-word l = given l.parameter (words l.rest) ≡ given l.parameter (words l.text)

abbrev pub decreases-loop-word : goal.decreases-loop-word
decreases-loop-word l = length l.rest
