use Rattle.std.proofs.Common.{◌≡◌, ◌∙◌, ◌<◌, ◌≤◌, ◌∷◌, ◌++◌, [], ℕ, List, Some, None, true, nat_eq, length, cond, arith, rules, refl, sym, ap, subst}
use Rattle.std.specs.Prelude.{unwrap_or}
use Rattle.std.specs.List.{list_all}
use Rattle.std.specs.Map.{lookup}
use Rattle.indexmap.specs.IndexMap.{get}
use Rattle.journal_model.specs.Rollback.{MemberChange}
use Rattle.journal_replay.specs.Open.{open_change}
use Rattle.journal_replay.specs.Tests.{is_apart}
use Rattle.open_cycles.specs.Kept.{live, times, same_record, first_after, AreFound}
use Rattle.open_cycles.proofs.KeptLemmas.{Kept, times-fit, live-push, found-push, found-same}
use Rattle.open_cycles.proofs.kept.Changes.note.Goals as goal

pub count_more-requires-clause-fits : goal.count_more-requires-clause-fits
count_more-requires-clause-fits c =
    let kept = c.self.inside.kept.items in
    let member = c.change.inside.member in
    let counted : unwrap_or (get nat_eq c.reserve-3.new.self member) 0 ≡ times member (live kept) =
    ap (λ (es : List (ℕ × ℕ)). unwrap_or (lookup (nat_eq member) es) 0) c.reserve-3.ensures.entries ∙ c.self.invariant.2 member in
    let fits : times member (live kept) ≤ length kept = times-fit member kept in
    let items : c.as_slice.result.now ≡ kept = c.as_slice.ensures.value ∙ c.reserve.ensures.items in
    let few : length kept < 9223372036854775808 = subst (λ (k : Kept). length k < 9223372036854775808) items c.count-place.ensures.few in
    omega (arith, counted, fits, few)

pub invariant_of-self-2 : goal.invariant_of-self-2
invariant_of-self-2 c =
    let kept = c.self.inside.kept.items in
    let change = (open_change c.change.inside.member c.change.inside.place c.change.inside.cycle c.change.inside.before c.change.inside.after) in
    let items : c.push_reserved.new.self.items ≡ kept ++ Some change ∷ [] = search rules in
    let sliced : c.as_slice.result.now ≡ kept = c.as_slice.ensures.value ∙ c.reserve.ensures.items in
    let there : c.count-place.result ≡ length kept = c.count-place.ensures.value ∙ ap length sliced in
    let apart : list_all (is_apart change.member change.change.place change.change.cycle) (live kept) ≡ true = rw (← c.change.view_is, ← c.self.view_is) at c.requires in
    let found = found-same kept (get nat_eq c.self.inside.places) (get same_record c.self.inside.firsts) (get same_record c.reserve-2.new.self) (get nat_eq c.self.inside.counts) (get nat_eq c.reserve-3.new.self)
    (λ r. ap (lookup (same_record r)) c.reserve-2.ensures.entries) (λ m. ap (lookup (nat_eq m)) c.reserve-3.ensures.entries) c.self.invariant in
    subst (λ (k : Kept). AreFound k (get nat_eq c.add_place.new.places) (get same_record c.add_first.new.firsts) (get nat_eq c.count_more.new.counts)) (sym items)
    (found-push kept (get nat_eq c.self.inside.places) (get nat_eq c.add_place.new.places) (get same_record c.reserve-2.new.self) (get same_record c.add_first.new.firsts)
    (get nat_eq c.reserve-3.new.self) (get nat_eq c.count_more.new.counts) change c.change.inside.cycle found refl apart
    (subst (λ (place : ℕ). (n : ℕ) → unwrap_or (get nat_eq c.add_place.new.places n) []
    ≡ cond (nat_eq c.change.inside.cycle n) (unwrap_or (get nat_eq c.self.inside.places n) [] ++ place ∷ []) (unwrap_or (get nat_eq c.self.inside.places n) [])) there c.in_ok-add_place.ensures.added)
    (subst (λ (place : ℕ). (r : ℕ × ℕ) → get same_record c.add_first.new.firsts r
    ≡ first_after (get same_record c.reserve-2.new.self r) (cond (same_record (change.member, change.change.place) r) (Some place) None)) there c.add_first.ensures)
    c.count_more.ensures)

pub returns : goal.returns
returns c =
    let kept = c.self.inside.kept.items in
    let change = (open_change c.change.inside.member c.change.inside.place c.change.inside.cycle c.change.inside.before c.change.inside.after) in
    let items : c.push_reserved.new.self.items ≡ kept ++ Some change ∷ [] = search rules in
    rw (← c.self.view_is) (ap live items ∙ live-push kept change ∙ ap (λ (d : MemberChange). d ∷ live kept) c.change.view_is)
