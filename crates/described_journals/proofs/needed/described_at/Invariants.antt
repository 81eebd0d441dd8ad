use Rattle.std.proofs.Common.{◌≡◌, []}
use Rattle.std.specs.Prelude.{vec_len}
use Rattle.described_journals.specs.Files.{described_upon}
use Rattle.described_journals.specs.Needed.{found}
use Rattle.described_journals.proofs.needed.described_at.Given as goal

abbrev pub invariant-loop-place : goal.invariant-loop-place
invariant-loop-place l = described_upon l.described (found l.files l.places.items) ≡ described_upon [] (found l.files l.initial.places.items)

abbrev pub decreases-loop-place : goal.decreases-loop-place
decreases-loop-place l = vec_len l.places
