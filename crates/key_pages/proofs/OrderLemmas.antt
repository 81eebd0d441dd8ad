-- The order of entries is total and tells any two apart; what an insert and a removal leave is in order.
use Rattle.std.proofs.Common.{◌≡◌, ℕ, suc, Result, Ok, Err, IfOk, IfErr, ◌+◌, ◌<◌, Bool, true, false, List, [], ◌∷◌, ◌++◌, length, get_or, refl, ap, sym, ◌∙◌, arith, inl, inr}
use Rattle.std.specs.declared.cmp.Ordering.{Ordering}
use Rattle.std.specs.declared.cmp.Ordering.TheVariants.{Less, Equal, Greater}
use Rattle.std.specs.Prelude.{◌≢◌, filter, remove, insert, All, AllPairs, Some}
use Rattle.std.specs.Cmp.{IsTotalOrder}
use Rattle.std.specs.Ordering.{nat_cmp, ordering_then, ordering_reverse, ordering_index, is_lt, is_gt, is_ne}
use Rattle.std.specs.List.{AllByRecursion, HoldsAt}
use Rattle.std.proofs.lemmas.Bool.{cases_lt}
use Rattle.std.proofs.lemmas.Option.{slice_get-get_or}
use Rattle.std.specs.List.Sorted.{IsStrictlySortedBy, IsNonDecreasingBy, IsPartitionPoint, IsBinarySearchResult, IsSearchInRange}
use Rattle.std.proofs.lemmas.Cmp.{on_total, then_total, back_total, nat_cmp_total, nat_list_cmp_total, alike_right, tied_itself}
use Rattle.std.proofs.lemmas.List.Sorted.{searchable_from_sorted}
use Rattle.std.proofs.lemmas.Map.Lookups.{CmpEqualImpliesEq, exact_unsigned, exact_bytes, exact_pairs}
use Rattle.std.proofs.lemmas.Map.Keys.{Less-from_sorted}
use Rattle.std.proofs.lemmas.List.Kept.{IsStrictlySortedBy-filter}
use Rattle.std.proofs.lemmas.List.Elements.{All-from_recursion, recursion_from_All, All-append, All-cons, All-weaker, filter_passes}
use Rattle.key_pages.specs.declared.entries.Entry.{Entry}
use Rattle.key_pages.specs.Order.{key_cmp, tie_cmp, entry_cmp, IsInOrder}
use Rattle.key_pages.specs.EntryList.{with_entry, without_entry}
use Rattle.key_pages.specs.Search.{IsAt, IsGapFor}
use Rattle.key_pages.proofs.Splits.{filter-front, filter-back, filter-but, filter-all}

tie_total : (falling : Bool) → IsTotalOrder (tie_cmp falling)
tie_total false = nat_cmp_total
tie_total true = back_total nat_cmp_total

tie_exact : (falling : Bool) → CmpEqualImpliesEq (tie_cmp falling)
tie_exact false = exact_unsigned
tie_exact true = λ x y same. sym (exact_unsigned y x same)

pub entry_total : (falling : Bool) → IsTotalOrder (entry_cmp falling)
entry_total falling =
    then_total (on_total (λ (e : Entry). e.key) nat_list_cmp_total)
    (then_total (on_total (λ (e : Entry). e.format) nat_cmp_total) (on_total (λ (e : Entry). e.rrn) (tie_total falling)))

-- entries that the order does not tell apart are one
pub entry_exact : (falling : Bool) → CmpEqualImpliesEq (entry_cmp falling)
entry_exact falling a b same =
    ap (λ (p : List ℕ × (ℕ × ℕ)). record { key = p.0; format = p.1.0; rrn = p.1.1 })
    (exact_pairs key_cmp (λ x y. ordering_then (nat_cmp x.0 y.0) (tie_cmp falling x.1 y.1)) exact_bytes
    (exact_pairs nat_cmp (tie_cmp falling) exact_unsigned (tie_exact falling)) (a.key, (a.format, a.rrn)) (b.key, (b.format, b.rrn)) same)

-- what holds of each element holds of one in the middle
at_middle : {K : Type 0} (P : K → Type 0) (xs : List K) (e : K) (ys : List K) → AllByRecursion P (xs ++ e ∷ ys) → P e
at_middle P [] e ys each = each.0
at_middle P (x ∷ xs) e ys each = at_middle P xs e ys each.1

pub from_is_lt : (found : Ordering) → is_lt found ≡ true → found ≡ Less
from_is_lt Less passes = refl
from_is_lt Equal passes = cc
from_is_lt Greater passes = cc

pub from_is_gt : (found : Ordering) → is_gt found ≡ true → found ≡ Greater
from_is_gt Less passes = cc
from_is_gt Equal passes = cc
from_is_gt Greater passes = refl

module _ {K : Type 0} (c : K → K → Ordering) (o : IsTotalOrder c) where
  pub Greater-from_Less : (x y : K) → c x y ≡ Less → c y x ≡ Greater
  Greater-from_Less x y less = o.antisymm y x ∙ ap ordering_reverse less

  pub Less-from_Greater : (x y : K) → c x y ≡ Greater → c y x ≡ Less
  Less-from_Greater x y greater = o.antisymm y x ∙ ap ordering_reverse greater

  -- lesser elements, one between, greater ones
  pub sorted_around : (xs : List K) (e : K) (ys : List K) → IsStrictlySortedBy c xs → IsStrictlySortedBy c ys → All (λ x. c x e ≡ Less) xs → All (λ y. c e y ≡ Less) ys → IsStrictlySortedBy c (xs ++ e ∷ ys)
  unfolding IsStrictlySortedBy
  sorted_around [] e ys front back below above = (recursion_from_All (λ y. c e y ≡ Less) ys above, back)
  sorted_around (x ∷ xs) e ys front back below above =
      let less : c x e ≡ Less = below 0 x (omega arith) in
      let beyond : All (λ y. c x y ≡ Less) (e ∷ ys) = All-cons (λ y. c x y ≡ Less) e ys less (All-weaker (λ y. c e y ≡ Less) (λ y. c x y ≡ Less) (λ y h. o.trans x e y less h) ys above) in
      let front' : All (λ y. c x y ≡ Less) xs = All-from_recursion (λ y. c x y ≡ Less) xs front.0 in (
        recursion_from_All (λ y. c x y ≡ Less) (xs ++ e ∷ ys) (All-append (λ y. c x y ≡ Less) xs (e ∷ ys) front' beyond),
        sorted_around xs e ys front.1 back (λ k d h. below (suc k) d (omega arith)) above,
      )

  -- an element in the middle is above those before it, and below those after it
  pub below_middle : (xs : List K) (e : K) (ys : List K) → IsStrictlySortedBy c (xs ++ e ∷ ys) → AllByRecursion (λ x. c x e ≡ Less) xs
  unfolding IsStrictlySortedBy
  below_middle [] e ys sorted = tt
  below_middle (x ∷ xs) e ys sorted = (at_middle _ xs e ys sorted.0, below_middle xs e ys sorted.1)

  pub above_middle : (xs : List K) (e : K) (ys : List K) → IsStrictlySortedBy c (xs ++ e ∷ ys) → AllByRecursion (λ y. c e y ≡ Less) ys
  unfolding IsStrictlySortedBy
  above_middle [] e ys sorted = sorted.0
  above_middle (x ∷ xs) e ys sorted = above_middle xs e ys sorted.1

  -- the filters of an insert are the parts at its place
  pub insert_at : (e : K) (xs : List K) (i : ℕ) → IsPartitionPoint (λ x. c x e ≡ Less) (λ x. c x e ≡ Greater) xs i → filter (λ x. is_lt (c x e)) xs ++ e ∷ filter (λ x. is_gt (c x e)) xs ≡ insert xs i e
  insert_at e xs i cut =
      let front = filter-front (λ x. is_lt (c x e)) xs i (λ k d from upto. ap is_lt (cut.0 k d from upto)) (λ k d from upto. ap is_lt (cut.1 k d from upto)) in
      let back = filter-back (λ x. is_gt (c x e)) xs i (λ k d from upto. ap is_gt (cut.0 k d from upto)) (λ k d from upto. ap is_gt (cut.1 k d from upto)) in
      cc

  -- the filter of a removal leaves out the place
  pub remove_at : (e : K) (xs : List K) (i : ℕ) → IsStrictlySortedBy c xs → i < length xs → HoldsAt (λ x. c x e ≡ Equal) xs i → filter (λ x. is_ne (c x e)) xs ≡ remove xs i
  remove_at e xs i sorted within here =
      filter-but (λ x. is_ne (c x e)) xs i within
      (λ k d from upto. ap is_ne (sym (alike_right o (get_or xs i d) e (get_or xs k d) (here d)) ∙ Less-from_sorted c xs k i d sorted upto within))
      (λ d. ap is_ne (here d))
      (λ k d from upto. ap is_ne (sym (alike_right o (get_or xs i d) e (get_or xs k d) (here d)) ∙ Greater-from_Less (get_or xs i d) (get_or xs k d) (Less-from_sorted c xs i k d sorted (omega arith) upto)))

  -- what an insert leaves is in order
  pub sorted_insert : (e : K) (xs : List K) → IsStrictlySortedBy c xs → IsStrictlySortedBy c (filter (λ x. is_lt (c x e)) xs ++ e ∷ filter (λ x. is_gt (c x e)) xs)
  sorted_insert e xs sorted =
      let lesser = filter (λ x. is_lt (c x e)) xs in
      let greater = filter (λ x. is_gt (c x e)) xs in
      sorted_around lesser e greater
      (IsStrictlySortedBy-filter c (λ x. is_lt (c x e)) xs sorted) (IsStrictlySortedBy-filter c (λ x. is_gt (c x e)) xs sorted)
      (All-weaker (λ x. is_lt (c x e) ≡ true) (λ x. c x e ≡ Less) (λ x. from_is_lt (c x e)) lesser (filter_passes (λ x. is_lt (c x e)) xs))
      (All-weaker (λ x. is_gt (c x e) ≡ true) (λ x. c e x ≡ Less) (λ x passes. Less-from_Greater x e (from_is_gt (c x e) passes)) greater (filter_passes (λ x. is_gt (c x e)) xs))

  -- the comparisons with an element rise along a list in order, as a binary search asks
  pub rises : (e : K) (xs : List K) → IsStrictlySortedBy c xs → IsNonDecreasingBy (λ x. ordering_index (c x e)) xs
  rises e xs sorted =
      searchable_from_sorted o (λ x. x) xs e
      (λ k d from upto. ap is_lt (Greater-from_Less (get_or xs k d) (get_or xs (k + 1) d) (Less-from_sorted c xs k (k + 1) d sorted (omega arith) upto)))

-- what an insert and a removal make of entries in order
pub IsInOrder-with_entry : (falling : Bool) (entry : Entry) (entries : List Entry) → IsInOrder falling entries → IsInOrder falling (with_entry falling entry entries)
IsInOrder-with_entry falling entry entries sorted = sorted_insert (entry_cmp falling) (entry_total falling) entry entries sorted

pub IsInOrder-without_entry : (falling : Bool) (entry : Entry) (entries : List Entry) → IsInOrder falling entries → IsInOrder falling (without_entry falling entry entries)
IsInOrder-without_entry falling entry entries sorted =
    IsStrictlySortedBy-filter (entry_cmp falling) (λ other. is_ne (entry_cmp falling other entry)) entries sorted

-- where the entry is
found_at : (falling : Bool) (entry : Entry) (entries : List Entry) (i : ℕ) → IsInOrder falling entries → i < length entries → HoldsAt (λ other. entry_cmp falling other entry ≡ Equal) entries i → IsAt falling entry entries i
found_at falling entry entries i sorted within here =
    let same : get_or entries i entry ≡ entry = entry_exact falling (get_or entries i entry) entry (here entry) in
    record {
      here = slice_get-get_or entries i entry within ∙ ap Some same;
      there = (i, within, same);
      removed = sym (remove_at (entry_cmp falling) (entry_total falling) entry entries i sorted within here);
    }

-- where it would go
absent_at : (falling : Bool) (entry : Entry) (entries : List Entry) (i : ℕ) → IsPartitionPoint (λ other. entry_cmp falling other entry ≡ Less) (λ other. entry_cmp falling other entry ≡ Greater) entries i → IsGapFor falling entry entries i
absent_at falling entry entries i cut = record {
  absent = λ there.
      let itself : entry_cmp falling (get_or entries there.0 entry) entry ≡ Equal = ap (λ other. entry_cmp falling other entry) there.2 ∙ tied_itself (entry_total falling) entry in
      elim (cases_lt there.0 i) [
        | inl below ↦ let less = cut.0 there.0 entry (omega arith) below in cc
        | inr above ↦ let greater = cut.1 there.0 entry above there.1 in cc
      ];
  inserted = sym (insert_at (entry_cmp falling) (entry_total falling) entry entries i cut);
  unchanged = sym (filter-all (λ other. is_ne (entry_cmp falling other entry)) entries (λ k d from upto.
      elim (cases_lt k i) [
        | inl below ↦ ap is_ne (cut.0 k d from below)
        | inr above ↦ ap is_ne (cut.1 k d above upto)
      ]));
}

-- what the search of a list in order for an entry answers
pub searched : (falling : Bool) (entry : Entry) (entries : List Entry) (found : Result ℕ ℕ) → IsInOrder falling entries → IsSearchInRange found (length entries) → IsBinarySearchResult (λ other. entry_cmp falling other entry) entries found
    → IfOk found (IsAt falling entry entries) × IfErr found (IsGapFor falling entry entries)
searched falling entry entries (Ok i) sorted within is = (found_at falling entry entries i sorted within is, tt)
searched falling entry entries (Err i) sorted within is =
    (tt, absent_at falling entry entries i (is (rises (entry_cmp falling) (entry_total falling) entry entries sorted)))

-- no entry is there twice
pub apart : (falling : Bool) (entries : List Entry) → IsInOrder falling entries → AllPairs (λ entry other. entry ≢ other) entries
apart falling entries sorted i j d before within same =
    let less = Less-from_sorted (entry_cmp falling) entries i j d sorted before within in
    let itself = tied_itself (entry_total falling) (get_or entries i d) in
    let also = ap (λ other. entry_cmp falling (get_or entries i d) other) same in
    cc
