use Rattle.std.proofs.Common.{◌≡◌, length}
use Rattle.statement_reader.specs.Lists.{each, with_front}
use Rattle.statement_reader.specs.RefusalNames.{refusal_named}
use Rattle.statement_reader.specs.Words.{words}
use Rattle.statement_reader.proofs.control.named_of.Given as goal

abbrev pub invariant-loop-word : goal.invariant-loop-word
invariant-loop-word l = with_front l.names.items (each refusal_named (words l.rest)) ≡ each refusal_named (words l.text)

abbrev pub decreases-loop-word : goal.decreases-loop-word
decreases-loop-word l = length l.rest
