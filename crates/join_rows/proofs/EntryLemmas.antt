-- Along a path the entries after a position are the first of them, and those after it; likewise those before.
use Rattle.std.proofs.Common.{◌≡◌, ℕ, ◌+◌, ◌-◌, ◌≤◌, ◌<◌, Bool, true, false, not, cond, Option, Some, None, List, [], ◌∷◌, length, take, refl, sym, ◌∙◌, ap, arith}
use Rattle.std.specs.Prelude.{filter, reverse}
use Rattle.std.specs.List.{AllByRecursion}
use Rattle.std.specs.declared.cmp.Ordering.{Ordering}
use Rattle.std.specs.declared.cmp.Ordering.TheVariants.{Less, Equal, Greater}
use Rattle.std.specs.Ordering.{MatchOrdering, nat_cmp, ordering_then, ordering_reverse, is_lt, is_eq, is_gt}
use Rattle.std.specs.Cmp.{IsTotalOrder}
use Rattle.std.proofs.lemmas.Cmp.{ranked, tied_itself, alike_right, nat_cmp_total, nat_list_cmp_total}
use Rattle.key_pages.specs.declared.entries.Entry.{Entry}
use Rattle.key_pages.specs.EntryList.{EntryList}
use Rattle.key_pages.specs.Order.{key_cmp, entry_cmp, tie_cmp, IsInOrder}
use Rattle.key_pages.proofs.SideLemmas.{cut_rises}
use Rattle.key_pages.proofs.OrderLemmas.{entry_total}
use Rattle.file_cursor.specs.CursorPosition.{CursorPosition, Start, End, On, Before, Past, ByKey, ByNumber}
use Rattle.file_cursor.specs.Finding.{compare_part, is_after, is_before}
use Rattle.file_cursor.specs.Reading.{IsByKey}
use Rattle.join_rows.specs.Rows.{number_low, number_high, found_entry}
use Rattle.join_rows.proofs.OptionLemmas.{true-false}
use Rattle.join_rows.proofs.WalkLemmas.{all-reverse, pair-reverse, find-none, walked}
use Rattle.join_rows.proofs.PlaceLemmas.{number-from, number-until}
use Rattle.join_rows.proofs.TrialLemmas.{next-number}
use Rattle.join_rows.proofs.BackLemmas.{sorted-pairs}

-- ---- tests that later entries pass too

lt-before : {K : Type 0} (c : K → K → Ordering) → IsTotalOrder c → (x y z : K) → is_gt (c x y) ≡ false → is_lt (c y z) ≡ true → is_lt (c x z) ≡ true
lt-before c o x y z rises below = by (c x y) refl rises (c y z) refl below
  where
    by : (p : Ordering) → c x y ≡ p → is_gt p ≡ false → (q : Ordering) → c y z ≡ q → is_lt q ≡ true → is_lt (c x z) ≡ true
    by Less is h Less also k = ap is_lt (o.trans x y z is also)
    by Equal is h Less also k = ap is_lt (o.congr x y z is ∙ also)
    by Greater is h q also k = true-false h
    by Less is h Equal also k = true-false (sym k)
    by Less is h Greater also k = true-false (sym k)
    by Equal is h Equal also k = true-false (sym k)
    by Equal is h Greater also k = true-false (sym k)

le-before : {K : Type 0} (c : K → K → Ordering) → IsTotalOrder c → (x y z : K) → is_gt (c x y) ≡ false → is_gt (c y z) ≡ false → is_gt (c x z) ≡ false
le-before c o x y z rises below = by (c x y) refl rises (c y z) refl below
  where
    by : (p : Ordering) → c x y ≡ p → is_gt p ≡ false → (q : Ordering) → c y z ≡ q → is_gt q ≡ false → is_gt (c x z) ≡ false
    by Less is h Less also k = ap is_gt (o.trans x y z is also)
    by Less is h Equal also k = ap is_gt (sym (alike_right o y z x also) ∙ is)
    by Less is h Greater also k = true-false k
    by Equal is h q also k = ap is_gt (o.congr x y z is ∙ also) ∙ k
    by Greater is h q also k = true-false h

first-not-above : (first second : Ordering) → ordering_then first second ≡ Less → is_gt first ≡ false
first-not-above Less second h = refl
first-not-above Equal second h = refl
first-not-above Greater second h = cc

opposite : (b c : Bool) → (c ≡ true → b ≡ true) → b ≡ false → c ≡ false
opposite b true so h = true-false (sym (so refl) ∙ h)
opposite b false so h = refl

module _ (falling : Bool) where
  cut-rises : (part : List ℕ) (a b : Entry) → entry_cmp falling a b ≡ Less → is_gt (key_cmp (take (length part) a.key) (take (length part) b.key)) ≡ false
  cut-rises part a b less = cut_rises (length part) a.key b.key (first-not-above (key_cmp a.key b.key) (ordering_then (nat_cmp a.format b.format) (tie_cmp falling a.rrn b.rrn)) less)

  -- what is less than the bytes with a later one is so with an earlier one
  part-lt : (part : List ℕ) (a b : Entry) → entry_cmp falling a b ≡ Less → is_lt (compare_part part b.key) ≡ true → is_lt (compare_part part a.key) ≡ true
  part-lt part a b less h = lt-before key_cmp nat_list_cmp_total (take (length part) a.key) (take (length part) b.key) part (cut-rises part a b less) h

  part-le : (part : List ℕ) (a b : Entry) → entry_cmp falling a b ≡ Less → is_gt (compare_part part b.key) ≡ false → is_gt (compare_part part a.key) ≡ false
  part-le part a b less h = le-before key_cmp nat_list_cmp_total (take (length part) a.key) (take (length part) b.key) part (cut-rises part a b less) h

  not-false : (b : Bool) → (b ≡ false → ⊥) → b ≡ true
  not-false true so = refl
  not-false false so = absurd (so refl)

  then-before : (o : Ordering) → is_gt (ordering_then o Greater) ≡ not (is_lt o)
  then-before Less = refl
  then-before Equal = refl
  then-before Greater = refl

  then-past : (o : Ordering) → is_gt (ordering_then o Less) ≡ is_gt o
  then-past Less = refl
  then-past Equal = refl
  then-past Greater = refl

  before-then : (o : Ordering) → is_lt (ordering_then o Greater) ≡ is_lt o
  before-then Less = refl
  before-then Equal = refl
  before-then Greater = refl

  past-then : (o : Ordering) → is_lt (ordering_then o Less) ≡ not (is_gt o)
  past-then Less = refl
  past-then Equal = refl
  past-then Greater = refl

  not-true : (b : Bool) → not b ≡ true → b ≡ false
  not-true true h = true-false (sym h)
  not-true false h = refl

  false-not : (b : Bool) → b ≡ false → not b ≡ true
  false-not b h = ap not h

  greater-of : (o : Ordering) → is_gt o ≡ true → o ≡ Greater
  greater-of Less h = true-false (sym h)
  greater-of Equal h = true-false (sym h)
  greater-of Greater h = refl

  less-of : (o : Ordering) → is_lt o ≡ true → o ≡ Less
  less-of Less h = refl
  less-of Equal h = true-false (sym h)
  less-of Greater h = true-false (sym h)

  turned : (a b : Entry) → entry_cmp falling a b ≡ Less → entry_cmp falling b a ≡ Greater
  turned a b less = (entry_total falling).antisymm b a ∙ ap ordering_reverse less

  after-stays : (from : CursorPosition) → IsByKey from → (a b : Entry) → entry_cmp falling a b ≡ Less → is_after falling from a ≡ true → is_after falling from b ≡ true
  after-stays Start keyed a b less h = refl
  after-stays End keyed a b less h = true-false (sym h)
  after-stays (On at) keyed a b less h =
      let first : entry_cmp falling at a ≡ Less = (entry_total falling).antisymm at a ∙ ap ordering_reverse (greater-of (entry_cmp falling a at) h) in
      ap is_gt (turned at b ((entry_total falling).trans at a b first less))
  after-stays (Before (ByKey part)) keyed a b less h =
      then-before (compare_part part b.key)
      ∙ false-not (is_lt (compare_part part b.key))
      (opposite (is_lt (compare_part part a.key)) (is_lt (compare_part part b.key)) (part-lt part a b less)
      (not-true (is_lt (compare_part part a.key)) (sym (then-before (compare_part part a.key)) ∙ h)))
  after-stays (Before (ByNumber n)) keyed a b less h = absurd keyed
  after-stays (Past (ByKey part)) keyed a b less h =
      then-past (compare_part part b.key)
      ∙ not-false (is_gt (compare_part part b.key))
      (λ none. true-false (sym (sym (then-past (compare_part part a.key)) ∙ h) ∙ part-le part a b less none))
  after-stays (Past (ByNumber n)) keyed a b less h = absurd keyed

  before-stays : (from : CursorPosition) → IsByKey from → (a b : Entry) → entry_cmp falling a b ≡ Less → is_before falling from b ≡ true → is_before falling from a ≡ true
  before-stays Start keyed a b less h = true-false (sym h)
  before-stays End keyed a b less h = refl
  before-stays (On at) keyed a b less h = ap is_lt ((entry_total falling).trans a b at less (less-of (entry_cmp falling b at) h))
  before-stays (Before (ByKey part)) keyed a b less h =
      before-then (compare_part part a.key) ∙ part-lt part a b less (sym (before-then (compare_part part b.key)) ∙ h)
  before-stays (Before (ByNumber n)) keyed a b less h = absurd keyed
  before-stays (Past (ByKey part)) keyed a b less h =
      past-then (compare_part part a.key)
      ∙ false-not (is_gt (compare_part part a.key)) (part-le part a b less (not-true (is_gt (compare_part part b.key)) (sym (past-then (compare_part part b.key)) ∙ h)))
  before-stays (Past (ByNumber n)) keyed a b less h = absurd keyed

-- ---- the entries after a position, or before it

abbrev pub entries_by : (back : Bool) → EntryList → CursorPosition → List Entry
entries_by back list from = cond back (filter (is_before list.falling from) (reverse list.entries)) (filter (is_after list.falling from) list.entries)

-- an entry, and those after it
abbrev pub entries_at : (back : Bool) → EntryList → Option Entry → List Entry
entries_at back list None = []
entries_at back list (Some entry) = entry ∷ entries_by back list (On entry)

everywhere : (xs : List Entry) → AllByRecursion (λ x. Unit {0}) xs
everywhere [] = tt
everywhere (x ∷ xs) = (tt, everywhere xs)

pub entries-found : (back : Bool) (list : EntryList) (from : CursorPosition) → IsByKey from → IsInOrder list.falling list.entries → (at : Option Entry) → at ≡ found_entry back list from
    → entries_by back list from ≡ entries_at back list at
entries-found false list from keyed sorted None is = find-none (is_after list.falling from) list.entries (sym is)
entries-found false list from keyed sorted (Some x) is =
    let falling : Bool = list.falling in
    walked (λ (a : Entry). Unit {0}) (λ a b. entry_cmp falling a b ≡ Less) (is_after falling from) (λ a b. is_after falling (On a) b)
    (λ a b here less h. after-stays falling from keyed a b less h ∙ sym (ap is_gt (turned falling a b less)))
    (λ a here. ap is_gt (tied_itself (entry_total falling) a))
    (λ a b there less. ap is_gt less)
    list.entries x (everywhere list.entries) (sorted-pairs falling list.entries sorted) (sym is)
entries-found true list from keyed sorted None is = find-none (is_before list.falling from) (reverse list.entries) (sym is)
entries-found true list from keyed sorted (Some x) is =
    let falling : Bool = list.falling in
    walked (λ (a : Entry). Unit {0}) (λ a b. entry_cmp falling b a ≡ Less) (is_before falling from) (λ a b. is_before falling (On a) b)
    (λ a b here less h. before-stays falling from keyed b a less h ∙ sym (ap is_lt less))
    (λ a here. ap is_lt (tied_itself (entry_total falling) a))
    (λ a b there less. ap is_lt (turned falling b a less))
    (reverse list.entries) x (all-reverse (λ (a : Entry). Unit {0}) list.entries (everywhere list.entries))
    (pair-reverse (λ a b. entry_cmp falling a b ≡ Less) list.entries (sorted-pairs falling list.entries sorted)) (sym is)

-- ---- numbers beside one

above-next : (r n : ℕ) → is_gt (nat_cmp (n + 1) r) ≡ not (is_lt (nat_cmp n r))
above-next r n = by (nat_cmp (n + 1) r) (nat_cmp n r) (ranked (n + 1) r (nat_cmp (n + 1) r) refl) (ranked n r (nat_cmp n r) refl)
  where
    by : (o p : Ordering) → MatchOrdering o (n + 1 < r) (n + 1 ≡ r) (r < n + 1) → MatchOrdering p (n < r) (n ≡ r) (r < n) → is_gt o ≡ not (is_lt p)
    by Less Less h k = refl
    by Less Equal h k = absurd (omega (arith, h, k))
    by Less Greater h k = absurd (omega (arith, h, k))
    by Equal Less h k = refl
    by Equal Equal h k = absurd (omega (arith, h, k))
    by Equal Greater h k = absurd (omega (arith, h, k))
    by Greater Less h k = absurd (omega (arith, h, k))
    by Greater Equal h k = refl
    by Greater Greater h k = refl

below-prior : (r n : ℕ) → 1 ≤ n → is_lt (nat_cmp (n - 1) r) ≡ not (is_gt (nat_cmp n r))
below-prior r n some = by (nat_cmp (n - 1) r) (nat_cmp n r) (ranked (n - 1) r (nat_cmp (n - 1) r) refl) (ranked n r (nat_cmp n r) refl)
  where
    by : (o p : Ordering) → MatchOrdering o (n - 1 < r) (n - 1 ≡ r) (r < n - 1) → MatchOrdering p (n < r) (n ≡ r) (r < n) → is_lt o ≡ not (is_gt p)
    by Less Less h k = refl
    by Less Equal h k = refl
    by Less Greater h k = absurd (omega (arith, h, k, some))
    by Equal Less h k = absurd (omega (arith, h, k, some))
    by Equal Equal h k = absurd (omega (arith, h, k, some))
    by Equal Greater h k = refl
    by Greater Less h k = absurd (omega (arith, h, k, some))
    by Greater Equal h k = absurd (omega (arith, h, k, some))
    by Greater Greater h k = refl

ties-low : (falling : Bool) (r n : ℕ) → 1 ≤ n → n < 4294967295 → is_gt (tie_cmp falling r (number_low falling n)) ≡ not (is_lt (tie_cmp falling r n))
ties-low false r n some most = number-from r n some
ties-low true r n some most = ap (λ k. is_gt (nat_cmp k r)) (next-number n most) ∙ above-next r n

ties-high : (falling : Bool) (r n : ℕ) → 1 ≤ n → n < 4294967295 → is_lt (tie_cmp falling r (number_high falling n)) ≡ not (is_gt (tie_cmp falling r n))
ties-high false r n some most = ap (λ k. is_lt (nat_cmp r k)) (next-number n most) ∙ number-until r n
ties-high true r n some most = below-prior r n some

pub low-place : (falling : Bool) (o p : Ordering) (r n : ℕ) → 1 ≤ n → n < 4294967295
    → is_gt (ordering_then o (ordering_then p (tie_cmp falling r (number_low falling n)))) ≡ not (is_lt (ordering_then o (ordering_then p (tie_cmp falling r n))))
low-place falling Less p r n some most = refl
low-place falling Greater p r n some most = refl
low-place falling Equal Less r n some most = refl
low-place falling Equal Greater r n some most = refl
low-place falling Equal Equal r n some most = ties-low falling r n some most

pub high-place : (falling : Bool) (o p : Ordering) (r n : ℕ) → 1 ≤ n → n < 4294967295
    → is_lt (ordering_then o (ordering_then p (tie_cmp falling r (number_high falling n)))) ≡ not (is_gt (ordering_then o (ordering_then p (tie_cmp falling r n))))
high-place falling Less p r n some most = refl
high-place falling Greater p r n some most = refl
high-place falling Equal Less r n some most = refl
high-place falling Equal Greater r n some most = refl
high-place falling Equal Equal r n some most = ties-high falling r n some most

-- ties are equal in either direction
tie-equal : (falling : Bool) (r n : ℕ) → is_eq (tie_cmp falling r n) ≡ is_eq (nat_cmp r n)
tie-equal false r n = refl
tie-equal true r n = ap is_eq (nat_cmp_total.antisymm n r) ∙ back (nat_cmp r n)
  where
    back : (o : Ordering) → is_eq (ordering_reverse o) ≡ is_eq o
    back Less = refl
    back Equal = refl
    back Greater = refl

pub equal-place : (falling : Bool) (o : Ordering) (format r n : ℕ) → format ≡ 0
    → is_eq (ordering_then o (nat_cmp r n)) ≡ is_eq (ordering_then o (ordering_then (nat_cmp format 0) (tie_cmp falling r n)))
equal-place falling o format r n first =
    by o ∙ ap (λ k. is_eq (ordering_then o (ordering_then (nat_cmp k 0) (tie_cmp falling r n)))) (sym first)
  where
    by : (p : Ordering) → is_eq (ordering_then p (nat_cmp r n)) ≡ is_eq (ordering_then p (ordering_then (nat_cmp 0 0) (tie_cmp falling r n)))
    by Less = refl
    by Equal = sym (tie-equal falling r n)
    by Greater = refl
