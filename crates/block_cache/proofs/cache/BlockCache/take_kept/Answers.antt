use Rattle.std.proofs.Common.{◌≡◌, ◌∙◌, ℕ, nat_eq, List, sym, subst}
use Rattle.std.specs.List.{AllByRecursion}
use Rattle.std.specs.Map.{values_of}
use Rattle.lru.specs.LruCache.{LruCache, promoted}
use Rattle.entry_codec.specs.declared.entries.Entry.{Entry}
use Rattle.block_cache.specs.Cached.{AreStretches, HasSequence, IsShort, IsStretch}
use Rattle.block_cache.proofs.Keys.{all_kept, all_promoted, all_values, has_promoted, no_key}
use Rattle.block_cache.proofs.cache.BlockCache.take_kept.Goals as goal

pub returns-in_default-clause-none : goal.returns-in_default-clause-none
returns-in_default-clause-none c = λ has.
    no_key c.args.lo c.self.inside.blocks.entries (sym c.key_of.ensures ∙ c.in_default.is) (subst (λ (l : List (List Entry)). HasSequence l c.args.lo) (sym c.self.view_is) has)

pub copy_kept-requires : goal.copy_kept-requires
copy_kept-requires c = record { key = sym c.key_of.ensures ∙ c.in-Some.is; some = c.requires.some }

pub invariant_of-self : goal.invariant_of-self
invariant_of-self c =
    subst (λ (m : LruCache ℕ (List Entry)). (m.cap ≡ 64) × AllByRecursion (λ kept. IsShort kept.1) m.entries) (sym c.promote-there.ensures.entries)
    (c.self.invariant.0, all_promoted (nat_eq c.in-Some.key) (λ kept. IsShort kept.1) c.self.inside.blocks.entries c.self.invariant.1)

pub returns-clause-taken : goal.returns-clause-taken
returns-clause-taken c =
    let es = c.self.inside.blocks.entries in
    let told = c.in_ok-reached.ensures in
    let reached = c.in_ok-reached.reached in
    record {
      from = told.from;
      upto = told.upto;
      has = subst (λ (m : LruCache ℕ (List Entry)). HasSequence (values_of m.entries) reached) (sym c.promote-there.ensures.entries) (has_promoted (nat_eq c.in-Some.key) reached es ∙ told.has);
      copied = λ first all are. told.copied first all (subst (λ (l : List (List Entry)). AreStretches first all l) (sym c.self.view_is) are);
    }

pub returns-clause-keep : goal.returns-clause-keep
returns-clause-keep c = λ n has.
    subst (λ (m : LruCache ℕ (List Entry)). HasSequence (values_of m.entries) n) (sym c.promote-there.ensures.entries)
    (has_promoted (nat_eq c.in-Some.key) n c.self.inside.blocks.entries ∙ subst (λ (l : List (List Entry)). HasSequence l n) (sym c.self.view_is) has)

pub returns-clause-cached : goal.returns-clause-cached
returns-clause-cached c = λ first all are.
    let es = c.self.inside.blocks.entries in
    let key = c.in-Some.key in
    let before = all_kept (IsStretch first all) es (subst (λ (l : List (List Entry)). AreStretches first all l) (sym c.self.view_is) are) in
    subst (λ (m : LruCache ℕ (List Entry)). AreStretches first all (values_of m.entries)) (sym c.promote-there.ensures.entries)
    (all_values (IsStretch first all) (promoted (nat_eq key) es) (all_promoted (nat_eq key) (λ kept. IsStretch first all kept.1) es before))
