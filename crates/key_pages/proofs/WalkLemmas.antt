-- A list in order that is read from entry to entry comes whole, forward and backward.
use Rattle.std.proofs.Common.{◌≡◌, Bool, true, false, cond, None, Some, List, [], ◌∷◌, ◌++◌, reverse, filter, find, refl, ap, sym, ◌∙◌, subst, append_assoc}
use Rattle.std.specs.declared.cmp.Ordering.{Ordering}
use Rattle.std.specs.declared.cmp.Ordering.TheVariants.{Less}
use Rattle.std.specs.Ordering.{is_lt, is_gt}
use Rattle.std.specs.List.{AllByRecursion, last_or}
use Rattle.std.proofs.lemmas.Cmp.{tied_itself}
use Rattle.std.proofs.lemmas.Grind.{reverse_onto}
use Rattle.std.proofs.lemmas.List.{append-nil}
use Rattle.std.proofs.lemmas.List.Elements.{filter-append}
use Rattle.key_pages.specs.declared.entries.Entry.{Entry}
use Rattle.key_pages.specs.declared.positions.Position.{Position}
use Rattle.key_pages.specs.declared.positions.Position.TheVariants.{Start, End, On, Before, Past}
use Rattle.key_pages.specs.Order.{entry_cmp, IsInOrder}
use Rattle.key_pages.specs.Position.{side_of, is_past, is_short, IsOn}
use Rattle.key_pages.specs.Walk.{ComesForward, ComesBackward}
use Rattle.key_pages.proofs.OrderLemmas.{entry_total, below_middle, above_middle, Greater-from_Less}
use Rattle.key_pages.proofs.Splits.{last_or-append}

-- on an entry, sides are those of the entry
side_of-on : (falling : Bool) (on : Position) (entry other : Entry) → IsOn on entry → side_of falling on other ≡ entry_cmp falling other entry
side_of-on falling Start entry other is = absurd is
side_of-on falling End entry other is = absurd is
side_of-on falling (On key format rrn) entry other is =
    ap (λ k. entry_cmp falling other (record { key = k; format = format; rrn = rrn })) is.0
    ∙ ap (λ f. entry_cmp falling other (record { key = entry.key; format = f; rrn = rrn })) is.1
    ∙ ap (λ r. entry_cmp falling other (record { key = entry.key; format = entry.format; rrn = r })) is.2
side_of-on falling (Before part) entry other is = absurd is
side_of-on falling (Past part) entry other is = absurd is

-- each answer of the test over the list
abbrev Each : (Entry → Bool) → Bool → List Entry → Type 0
Each test b entries = AllByRecursion (λ other. test other ≡ b) entries

Each-append : (test : Entry → Bool) (b : Bool) (xs : List Entry) (y : Entry) → Each test b xs → test y ≡ b → Each test b (xs ++ y ∷ [])
Each-append test b [] y each is = (is, tt)
Each-append test b (x ∷ xs) y each is = (each.0, Each-append test b xs y each.1 is)

Each-from : (falling : Bool) (test : Entry → Bool) (b : Bool) (c : Ordering) (P : Entry → Ordering) → ((other : Entry) → P other ≡ c → test other ≡ b) → (xs : List Entry) → AllByRecursion (λ other. P other ≡ c) xs → Each test b xs
Each-from falling test b c P gives [] each = tt
Each-from falling test b c P gives (x ∷ xs) each = (gives x each.0, Each-from falling test b c P gives xs each.1)

find-none : (test : Entry → Bool) (xs : List Entry) → Each test false xs → find test xs ≡ None
find-none test [] each = refl
find-none test (x ∷ xs) each = ap (λ b. cond b (Some x) (find test xs)) each.0 ∙ find-none test xs each.1

find-first : (test : Entry → Bool) (xs : List Entry) (y : Entry) (ys : List Entry) → Each test false xs → test y ≡ true → find test (xs ++ y ∷ ys) ≡ Some y
find-first test [] y ys each is = ap (λ b. cond b (Some y) (find test ys)) is
find-first test (x ∷ xs) y ys each is = ap (λ b. cond b (Some x) (find test (xs ++ y ∷ ys))) each.0 ∙ find-first test xs y ys each.1 is

filter-each : (test : Entry → Bool) (xs : List Entry) → Each test true xs → filter test xs ≡ xs
filter-each test [] each = refl
filter-each test (x ∷ xs) each =
    ap (λ b. cond b (x ∷ filter test xs) (filter test xs)) each.0 ∙ ap {B = List Entry} (λ r. x ∷ r) (filter-each test xs each.1)

filter-none : (test : Entry → Bool) (xs : List Entry) → Each test false xs → filter test xs ≡ []
filter-none test [] each = refl
filter-none test (x ∷ xs) each = ap (λ b. cond b (x ∷ filter test xs) (filter test xs)) each.0 ∙ filter-none test xs each.1

module _ (falling : Bool) where
  -- on an entry in the middle, those before it are short of it and those after it past it
  below : (on : Position) (xs : List Entry) (e : Entry) (ys : List Entry) → IsInOrder falling (xs ++ e ∷ ys) → IsOn on e → Each (is_short falling on) true xs
  below on xs e ys sorted is =
      Each-from falling (is_short falling on) true Less (λ x. entry_cmp falling x e) (λ x less. ap is_lt (side_of-on falling on e x is ∙ less)) xs
      (below_middle (entry_cmp falling) (entry_total falling) xs e ys sorted)

  not_past : (on : Position) (xs : List Entry) (e : Entry) (ys : List Entry) → IsInOrder falling (xs ++ e ∷ ys) → IsOn on e → Each (is_past falling on) false xs
  not_past on xs e ys sorted is =
      Each-from falling (is_past falling on) false Less (λ x. entry_cmp falling x e) (λ x less. ap is_gt (side_of-on falling on e x is ∙ less)) xs
      (below_middle (entry_cmp falling) (entry_total falling) xs e ys sorted)

  past : (on : Position) (xs : List Entry) (e : Entry) (ys : List Entry) → IsInOrder falling (xs ++ e ∷ ys) → IsOn on e → Each (is_past falling on) true ys
  past on xs e ys sorted is =
      Each-from falling (is_past falling on) true Less (λ y. entry_cmp falling e y) (λ y less. ap is_gt (side_of-on falling on e y is ∙ Greater-from_Less (entry_cmp falling) (entry_total falling) e y less)) ys
      (above_middle (entry_cmp falling) (entry_total falling) xs e ys sorted)

  not_short : (on : Position) (xs : List Entry) (e : Entry) (ys : List Entry) → IsInOrder falling (xs ++ e ∷ ys) → IsOn on e → Each (is_short falling on) false (e ∷ ys)
  not_short on xs e ys sorted is = (
    ap is_lt (side_of-on falling on e e is ∙ tied_itself (entry_total falling) e),
    Each-from falling (is_short falling on) false Less (λ y. entry_cmp falling e y) (λ y less. ap is_lt (side_of-on falling on e y is ∙ Greater-from_Less (entry_cmp falling) (entry_total falling) e y less)) ys
        (above_middle (entry_cmp falling) (entry_total falling) xs e ys sorted),
  )

  -- what is past the position comes
  pub forward : (entries done rest : List Entry) (from : Position) → IsInOrder falling entries → done ++ rest ≡ entries → Each (is_past falling from) false done → Each (is_past falling from) true rest → ComesForward falling entries from rest
  forward entries done [] from sorted whole before after =
      let all : done ≡ entries = sym (append-nil done) ∙ whole in
      ap (find (is_past falling from)) (sym all) ∙ find-none (is_past falling from) done before
  forward entries done (e ∷ rest) from sorted whole before after =
      let split : IsInOrder falling (done ++ e ∷ rest) = subst (λ es. IsInOrder falling es) (sym whole) sorted in (
        ap (find (is_past falling from)) (sym whole) ∙ find-first (is_past falling from) done e rest before after.0,
        λ on is. forward entries (done ++ e ∷ []) rest on sorted (append_assoc done (e ∷ []) rest ∙ whole)
            (Each-append (is_past falling on) false done e (not_past on done e rest split is) (ap is_gt (side_of-on falling on e e is ∙ tied_itself (entry_total falling) e)))
            (past on done e rest split is),
      )

  -- what is before the position comes, the last first
  pub backward : (entries back front rest : List Entry) (from : Position) → IsInOrder falling entries → front ≡ reverse back → front ++ rest ≡ entries → Each (is_short falling from) true front → Each (is_short falling from) false rest → ComesBackward falling entries from back
  backward entries [] front rest from sorted turned whole before after =
      let all : rest ≡ entries = sym (ap (λ es. es ++ rest) turned) ∙ whole in
      ap (λ es. last_or None (filter (is_short falling from) es)) (sym all) ∙ ap (last_or None) (filter-none (is_short falling from) rest after)
  backward entries (e ∷ back) front rest from sorted turned whole before after =
      let earlier = reverse back in
      let ends : front ≡ earlier ++ e ∷ [] = turned ∙ reverse_onto back e [] in
      let whole' : earlier ++ (e ∷ rest) ≡ entries = sym (append_assoc earlier (e ∷ []) rest) ∙ ap (λ es. es ++ rest) (sym ends) ∙ whole in
      let split : IsInOrder falling (earlier ++ e ∷ rest) = subst (λ es. IsInOrder falling es) (sym whole') sorted in
      let kept : filter (is_short falling from) entries ≡ front =
      ap (filter (is_short falling from)) (sym whole) ∙ filter-append (is_short falling from) front rest
      ∙ ap (λ es. es ++ filter (is_short falling from) rest) (filter-each (is_short falling from) front before)
      ∙ ap (λ es. front ++ es) (filter-none (is_short falling from) rest after) ∙ append-nil front in (
        ap (last_or None) (kept ∙ ends) ∙ last_or-append None earlier e,
        λ on is. backward entries back earlier (e ∷ rest) on sorted refl whole' (below on earlier e rest split is) (not_short on earlier e rest split is),
      )

  pub all_past : (xs : List Entry) → Each (is_past falling Start) true xs
  all_past [] = tt
  all_past (x ∷ xs) = (refl, all_past xs)

  pub all_short : (xs : List Entry) → Each (is_short falling End) true xs
  all_short [] = tt
  all_short (x ∷ xs) = (refl, all_short xs)
