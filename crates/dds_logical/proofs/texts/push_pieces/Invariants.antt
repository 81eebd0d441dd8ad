use Rattle.std.proofs.Common.{length, ◌≡◌}
use Rattle.dds_physical.specs.Defaults.{with_pieces}
use Rattle.dds_logical.proofs.texts.push_pieces.Given as goal

abbrev pub invariant-loop-rest : goal.invariant-loop-rest
invariant-loop-rest l = with_pieces l.text.items l.rest ≡ with_pieces l.fn.text.items l.arguments

abbrev pub decreases-loop-rest : goal.decreases-loop-rest
decreases-loop-rest l = length l.rest
