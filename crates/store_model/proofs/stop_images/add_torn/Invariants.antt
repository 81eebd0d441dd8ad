use Rattle.std.proofs.Common.{◌≡◌, ℕ, List, take}
use Rattle.std.specs.List.{AllByRecursion, Any}
use Rattle.store_model.specs.Disk.{Areas}
use Rattle.store_model.specs.Past.{held}
use Rattle.store_model.specs.MemoryStore.{HasImage, IsLeft}
use Rattle.store_model.specs.Replayed.{put}
use Rattle.store_model.proofs.stop_images.add_torn.Given as goal

abbrev pub invariant-loop-bytes : goal.invariant-loop-bytes
invariant-loop-bytes l = record {
  left : AllByRecursion (IsLeft l.changes) l.fn.images.items → AllByRecursion (IsLeft l.changes) l.images.items;
  kept : (areas : Areas) → HasImage areas l.fn.images.items → HasImage areas l.images.items;
  torn : (bytes : List ℕ) → Any (λ v. v.items ≡ bytes) (take l.bytes-index l.bytes-items) → HasImage (put l.area bytes (held l.synced)) l.images.items;
}
