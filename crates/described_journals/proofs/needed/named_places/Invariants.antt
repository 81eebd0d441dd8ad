use Rattle.std.proofs.Common.{◌≡◌, ◌≤◌, [], ◌∷◌, length, take}
use Rattle.std.specs.Prelude.{reverse}
use Rattle.described_journals.specs.Needed.{found_before, needed}
use Rattle.described_journals.proofs.needed.named_places.Given as goal

abbrev pub invariant-loop-left : goal.invariant-loop-left
invariant-loop-left l = record {
  within : l.left ≤ length l.files;
  so_far : found_before l.files l.places.items (needed (reverse (take l.left l.files)) (l.source ∷ l.wanted.items)) ≡ needed (reverse l.files) (l.source ∷ []);
}

abbrev pub decreases-loop-left : goal.decreases-loop-left
decreases-loop-left l = l.left
