use Rattle.std.proofs.Common.{◌≡◌, ℕ, ◌<◌, length}
use Rattle.store_model.specs.Past.{held}
use Rattle.store_model.specs.Replayed.{IsFree}
use Rattle.store_model.specs.Synced.{last_synced}
use Rattle.store_model.proofs.stop_images.synced_areas.Given as goal

abbrev pub invariant-loop-area : goal.invariant-loop-area
invariant-loop-area l = record {
  free : (area : ℕ) → area < l.area → IsFree l.changes area (held l.areas.items area);
  synced : (area : ℕ) → area < l.area → held l.areas.items area ≡ last_synced l.changes area;
  count : length l.areas.items ≡ l.area;
}
