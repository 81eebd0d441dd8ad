use Rattle.std.proofs.Common.{ℕ, ◌<◌}
use Rattle.std.specs.List.{AllByRecursion}
use Rattle.store_model.specs.Disk.{Areas}
use Rattle.store_model.specs.MemoryStore.{HasImage, HasTorn, IsLeft}
use Rattle.store_model.proofs.stop_images.add_all_torn.Given as goal

abbrev pub invariant-loop-area : goal.invariant-loop-area
invariant-loop-area l = record {
  left : AllByRecursion (IsLeft l.changes) l.fn.images.items → AllByRecursion (IsLeft l.changes) l.images.items;
  kept : (areas : Areas) → HasImage areas l.fn.images.items → HasImage areas l.images.items;
  torn : (area : ℕ) → area < l.area → HasTorn l.changes area l.images.items;
}
