use Rattle.std.proofs.Common.{length, ◌≡◌, []}
use Rattle.dds_physical.specs.Defaults.{with_texts}
use Rattle.dds_logical.proofs.texts.text_of.Given as goal

abbrev pub invariant-loop-rest : goal.invariant-loop-rest
invariant-loop-rest l = with_texts l.text.items l.rest ≡ with_texts [] l.keywords

abbrev pub decreases-loop-rest : goal.decreases-loop-rest
decreases-loop-rest l = length l.rest
