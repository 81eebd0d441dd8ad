use Rattle.std.proofs.Common.{◌≡◌, ℕ, nat_eq, List, sym, subst}
use Rattle.std.specs.List.{AllByRecursion}
use Rattle.std.specs.Map.{values_of}
use Rattle.lru.specs.LruCache.{LruCache, lru_cache, put_entries}
use Rattle.entry_codec.specs.declared.entries.Entry.{Entry}
use Rattle.block_cache.specs.Cached.{AreStretches, HasSequence, IsShort, IsStretch}
use Rattle.block_cache.proofs.Keys.{all_kept, all_put, all_values, has_put, put_either}
use Rattle.block_cache.proofs.cache.BlockCache.put.Goals as goal

pub invariant_of-self : goal.invariant_of-self
invariant_of-self c =
    let old = c.self.inside.blocks in
    put_either c.put.result (λ m. (m.cap ≡ 64) × AllByRecursion (λ kept. IsShort kept.1) m.entries) old c.put.new.self (lru_cache (put_entries nat_eq old c.args.key c.args.block) old.cap)
    c.put.ensures.entries c.put.ensures.err c.self.invariant
    (c.self.invariant.0, all_put old c.args.key c.args.block IsShort c.requires c.self.invariant.1)

pub invariant_of-self-2 : goal.invariant_of-self-2
invariant_of-self-2 c =
    let old = c.self.inside.blocks in
    subst (λ (m : LruCache ℕ (List Entry)). (m.cap ≡ 64) × AllByRecursion (λ kept. IsShort kept.1) m.entries) (sym c.in_ok-put.ensures.entries)
    (c.self.invariant.0, all_put old c.args.key c.args.block IsShort c.requires c.self.invariant.1)

pub returns-in_err-put-clause-cached : goal.returns-in_err-put-clause-cached
returns-in_err-put-clause-cached c = λ first all are is.
    subst (λ (m : LruCache ℕ (List Entry)). AreStretches first all (values_of m.entries)) (sym c.in_err-put.ensures.err)
    (subst (λ (l : List (List Entry)). AreStretches first all l) (sym c.self.view_is) are)

pub returns-clause-stands : goal.returns-clause-stands
returns-clause-stands c = λ n has.
    subst (λ (m : LruCache ℕ (List Entry)). HasSequence (values_of m.entries) n) (sym c.in_ok-put.ensures.entries) (has_put c.self.inside.blocks c.args.key c.args.block n has)

pub returns-clause-cached : goal.returns-clause-cached
returns-clause-cached c = λ first all are is.
    let before = all_kept (IsStretch first all) c.self.inside.blocks.entries (subst (λ (l : List (List Entry)). AreStretches first all l) (sym c.self.view_is) are) in
    subst (λ (m : LruCache ℕ (List Entry)). AreStretches first all (values_of m.entries)) (sym c.in_ok-put.ensures.entries)
    (all_values (IsStretch first all) (put_entries nat_eq c.self.inside.blocks c.args.key c.args.block) (all_put c.self.inside.blocks c.args.key c.args.block (IsStretch first all) is before))
