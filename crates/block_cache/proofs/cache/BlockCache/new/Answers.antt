use Rattle.std.proofs.Common.{◌≡◌, ℕ, List, sym, ap, subst}
use Rattle.std.specs.List.{AllByRecursion}
use Rattle.std.specs.Map.{values_of}
use Rattle.lru.specs.LruCache.{LruCache}
use Rattle.entry_codec.specs.declared.entries.Entry.{Entry}
use Rattle.block_cache.specs.Cached.{IsShort}
use Rattle.block_cache.proofs.cache.BlockCache.new.Goals as goal

pub invariant_of-result : goal.invariant_of-result
invariant_of-result c =
    subst (λ (m : LruCache ℕ (List Entry)). (m.cap ≡ 64) × AllByRecursion (λ kept. IsShort kept.1) m.entries) (sym c.in_ok-blocks.ensures) (c.most_blocks.ensures, tt)

pub returns : goal.returns
returns c = ap (λ (m : LruCache ℕ (List Entry)). values_of m.entries) c.in_ok-blocks.ensures
