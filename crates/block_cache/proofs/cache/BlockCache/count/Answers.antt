use Rattle.std.proofs.Common.{◌≡◌, ◌∙◌, ◌≤◌, List, length, sym, ap, subst, arith}
use Rattle.std.specs.List.{AllByRecursion}
use Rattle.std.proofs.lemmas.Map.Entries.{length-values_of}
use Rattle.entry_codec.specs.declared.entries.Entry.{Entry}
use Rattle.block_cache.specs.Cached.{IsShort}
use Rattle.block_cache.proofs.Keys.{all_values}
use Rattle.block_cache.proofs.cache.BlockCache.count.Goals as goal

pub returns-clause-count : goal.returns-clause-count
returns-clause-count c = c.len.ensures.len ∙ sym (length-values_of c.self.inside.blocks.entries) ∙ ap (λ (l : List (List Entry)). length l) c.self.view_is

pub returns-clause-few : goal.returns-clause-few
returns-clause-few c =
    subst (λ (l : List (List Entry)). length l ≤ 64) c.self.view_is (omega (arith, length-values_of c.self.inside.blocks.entries, c.len.ensures.valid.1, c.self.invariant.0))

pub returns-clause-short : goal.returns-clause-short
returns-clause-short c = subst (λ (l : List (List Entry)). AllByRecursion (λ block. IsShort block) l) c.self.view_is (all_values IsShort c.self.inside.blocks.entries c.self.invariant.1)
