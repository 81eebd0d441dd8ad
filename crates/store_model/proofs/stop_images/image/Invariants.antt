use Rattle.std.proofs.Common.{◌≡◌, ℕ, take}
use Rattle.store_model.specs.Past.{held, blank, seen_after}
use Rattle.store_model.proofs.stop_images.image.Given as goal

abbrev pub invariant-loop-place : goal.invariant-loop-place
invariant-loop-place l = (area : ℕ) → seen_after blank l.past.changes.items area ≡ held (take l.place l.areas) area
