-- Along a list in order the entries before a position come first, then one on it, then those past it.
use Rattle.std.proofs.Common.{◌≡◌, ℕ, suc, zero, ◌+◌, ◌<◌, Bool, true, false, not, ◌||◌, cond, List, [], ◌∷◌, length, get_or, take, refl, ap, sym, ◌∙◌, arith, inl, inr}
use Rattle.std.specs.declared.cmp.Ordering.{Ordering}
use Rattle.std.specs.declared.cmp.Ordering.TheVariants.{Less, Equal, Greater}
use Rattle.std.specs.Cmp.{IsTotalOrder}
use Rattle.std.specs.Ordering.{nat_cmp, ordering_then, is_lt, is_gt, is_le}
use Rattle.std.specs.List.{AllWithin, slice_get}
use Rattle.std.proofs.lemmas.Bool.{cases_lt, false_from_ne_true}
use Rattle.std.proofs.lemmas.Bool.Decides.{nat_tests}
use Rattle.std.proofs.lemmas.Cmp.{nat_list_cmp_total, alike_right}
use Rattle.std.proofs.lemmas.List.{get_or_default}
use Rattle.std.proofs.lemmas.List.Elements.{AllWithin-more}
use Rattle.std.proofs.lemmas.Map.Keys.{Less-from_sorted}
use Rattle.key_pages.specs.declared.entries.Entry.{Entry}
use Rattle.key_pages.specs.declared.positions.Position.{Position}
use Rattle.key_pages.specs.declared.positions.Position.TheVariants.{Start, End, On, Before, Past}
use Rattle.key_pages.specs.Order.{key_cmp, entry_cmp, IsInOrder}
use Rattle.key_pages.specs.Position.{is_less, begins_with, side_of, is_past, next_entry}
use Rattle.key_pages.specs.Search.{is_passed}
use Rattle.key_pages.proofs.OrderLemmas.{entry_total, from_is_lt}
use Rattle.key_pages.proofs.Splits.{find-split}

-- where the first of two answers is not above, neither is the whole
not_above_first : (first second : Ordering) → ordering_then first second ≡ Less → is_gt first ≡ false
not_above_first Less second less = refl
not_above_first Equal second less = refl
not_above_first Greater second less = cc

same_first : (first p q : Ordering) → (is_gt p ≡ false → is_gt q ≡ false) → is_gt (ordering_then first p) ≡ false → is_gt (ordering_then first q) ≡ false
same_first Less p q step above = refl
same_first Equal p q step above = step above
same_first Greater p q step above = above

-- keys in order stay so when both are cut
pub cut_rises : (n : ℕ) (xs ys : List ℕ) → is_gt (key_cmp xs ys) ≡ false → is_gt (key_cmp (take n xs) (take n ys)) ≡ false
cut_rises zero xs ys rises = refl
cut_rises (suc n) [] [] rises = refl
cut_rises (suc n) [] (y ∷ ys) rises = refl
cut_rises (suc n) (x ∷ xs) [] rises = cc
cut_rises (suc n) (x ∷ xs) (y ∷ ys) rises = same_first (nat_cmp x y) _ _ (cut_rises n xs ys) rises

-- which of two keys is less, and which begins with the other, is seen in the first as cut to the length of the other
less_then : (first p q : Ordering) → is_lt p ≡ is_lt q → is_lt (ordering_then first p) ≡ is_lt (ordering_then first q)
less_then Less p q same = refl
less_then Equal p q same = same
less_then Greater p q same = refl

pub is_less-cut : (key part : List ℕ) → is_lt (key_cmp (take (length part) key) part) ≡ is_less key part
is_less-cut [] [] = refl
is_less-cut (k ∷ key) [] = refl
is_less-cut [] (p ∷ part) = refl
is_less-cut (k ∷ key) (p ∷ part) = less_then (nat_cmp k p) _ _ (is_less-cut key part)

pub is_upto-cut : (key part : List ℕ) → is_le (key_cmp (take (length part) key) part) ≡ (is_less key part || begins_with key part)
is_upto-cut [] [] = refl
is_upto-cut (k ∷ key) [] = refl
is_upto-cut [] (p ∷ part) = refl
is_upto-cut (k ∷ key) (p ∷ part) = let rest = is_upto-cut key part in grind (arith, nat_tests, rest)

module _ {K : Type 0} (c : K → K → Ordering) (o : IsTotalOrder c) where
  -- what is below the lesser of two is below the greater, and so on
  pub Less-before_le : (x y z : K) → c x y ≡ Less → is_le (c y z) ≡ true → c x z ≡ Less
  Less-before_le x y z less upto =
      elim (c y z) as (λ r. c y z ≡ r → is_le r ≡ true → c x z ≡ Less) [
        | Less ↦ λ is _. o.trans x y z less is
        | Equal ↦ λ is _. sym (alike_right o y z x is) ∙ less
        | Greater ↦ λ is no. cc
      ] refl upto

  lt-before_lt : (x y z : K) → is_gt (c x y) ≡ false → is_lt (c y z) ≡ true → is_lt (c x z) ≡ true
  lt-before_lt x y z rises below =
      elim (c x y) as (λ r. c x y ≡ r → is_gt r ≡ false → is_lt (c x z) ≡ true) [
        | Less ↦ λ is _. ap is_lt (o.trans x y z is (from_is_lt (c y z) below))
        | Equal ↦ λ is _. ap is_lt (o.congr x y z is) ∙ below
        | Greater ↦ λ is no. cc
      ] refl rises

  le-before_le : (x y z : K) → is_gt (c x y) ≡ false → is_le (c y z) ≡ true → is_le (c x z) ≡ true
  le-before_le x y z rises below =
      elim (c x y) as (λ r. c x y ≡ r → is_gt r ≡ false → is_le (c x z) ≡ true) [
        | Less ↦ λ is _. ap is_le (Less-before_le x y z is below)
        | Equal ↦ λ is _. ap is_le (o.congr x y z is) ∙ below
        | Greater ↦ λ is no. cc
      ] refl rises

-- a position between keys is passed by those that are below it
is_passed-between : (itself before : Bool) → is_passed itself (cond before Less Greater) ≡ before
is_passed-between false false = refl
is_passed-between false true = refl
is_passed-between true false = refl
is_passed-between true true = refl

-- what lies before a passed entry is passed
pub passed_before : (itself falling : Bool) (from : Position) (a b : Entry) → entry_cmp falling a b ≡ Less → is_passed itself (side_of falling from b) ≡ true → is_passed itself (side_of falling from a) ≡ true
passed_before itself falling Start a b less passed = passed
passed_before itself falling End a b less passed = passed
passed_before false falling (On key format rrn) a b less passed =
    let at : Entry = record { key = key.now; format = format; rrn = rrn } in
    ap is_lt ((entry_total falling).trans a b at less (from_is_lt (entry_cmp falling b at) passed))
passed_before true falling (On key format rrn) a b less passed =
    let at : Entry = record { key = key.now; format = format; rrn = rrn } in
    ap is_le (Less-before_le (entry_cmp falling) (entry_total falling) a b at less passed)
passed_before itself falling (Before part) a b less passed =
    let rises = not_above_first (key_cmp a.key b.key) _ less in
    let below = sym (is_passed-between itself (is_less b.key part.now)) ∙ passed in
    is_passed-between itself (is_less a.key part.now) ∙ lt-before_lt key_cmp nat_list_cmp_total _ _ part.now rises below
passed_before itself falling (Past part) a b less passed =
    let rises = cut_rises (length part.now) a.key b.key (not_above_first (key_cmp a.key b.key) _ less) in
    let below = is_upto-cut b.key part.now ∙ (sym (is_passed-between itself (is_less b.key part.now || begins_with b.key part.now)) ∙ passed) in
    is_passed-between itself (is_less a.key part.now || begins_with a.key part.now)
    ∙ (sym (is_upto-cut a.key part.now) ∙ le-before_le key_cmp nat_list_cmp_total _ _ part.now rises below)

module _ (itself falling : Bool) (from : Position) (xs : List Entry) (i : ℕ) (x : Entry) (sorted : IsInOrder falling xs) (within : i < length xs) (read : x ≡ get_or xs i x) where
  abbrev passes : Entry → Bool
  passes e = is_passed itself (side_of falling from e)

  here : (d : Entry) → x ≡ get_or xs i d
  here d = read ∙ get_or_default xs i x d within

  -- a passed entry has only passed ones before it
  pub passed_upto : passes x ≡ true → AllWithin (λ e. passes e ≡ true) xs 0 (i + 1)
  passed_upto passed =
      AllWithin-more (λ e. passes e ≡ true) xs 0 i
      (λ k d from' upto. passed_before itself falling from (get_or xs k d) (get_or xs i d) (Less-from_sorted (entry_cmp falling) xs k i d sorted upto within) (sym (ap passes (here d)) ∙ passed))
      (λ d. sym (ap passes (here d)) ∙ passed)

  -- an entry ahead has only such after it
  pub ahead_from : passes x ≡ false → AllWithin (λ e. passes e ≡ false) xs i (length xs)
  ahead_from ahead = λ k d from' upto.
      elim (cases_lt i k) [
        | inl later ↦ false_from_ne_true _ (λ passed. let also : passes x ≡ true = ap passes (here d) ∙ passed_before itself falling from (get_or xs i d) (get_or xs k d) (Less-from_sorted (entry_cmp falling) xs i k d sorted later upto) passed in cc)
        | inr upto' ↦ let same : k ≡ i = omega arith in ap (λ j. passes (get_or xs j d)) same ∙ (sym (ap passes (here d)) ∙ ahead)
      ]

-- what a place that parts the list says of the entries next to the position
pub past-not_passed : (side : Ordering) (b : Bool) → is_le side ≡ b → is_gt side ≡ not b
past-not_passed Less b is = ap not is
past-not_passed Equal b is = ap not is
past-not_passed Greater b is = ap not is

module _ (falling : Bool) (from : Position) (xs : List Entry) where
  pub next_entry-at : (i : ℕ) → AllWithin (λ e. is_le (side_of falling from e) ≡ true) xs 0 i → AllWithin (λ e. is_le (side_of falling from e) ≡ false) xs i (length xs) → next_entry falling from xs ≡ slice_get xs i
  next_entry-at i passed ahead =
      find-split (is_past falling from) xs i
      (λ k d low upto. past-not_passed _ true (passed k d low upto))
      (λ k d low upto. past-not_passed _ false (ahead k d low upto))
