-- What a search among pages says of the entries before and after a page, and what an insert, a removal and a read make of them.
use Rattle.std.proofs.Common.{◌≡◌, ℕ, suc, zero, ◌+◌, ◌-◌, ◌<◌, ◌≤◌, Bool, true, false, Option, None, Some, Result, Ok, Err, IfOk, IfErr, List, [], ◌∷◌, ◌++◌, length, take, drop, refl, ap, sym, ◌∙◌, subst, arith, inl, inr}
use Rattle.std.specs.Prelude.{All, Contains, filter, find}
use Rattle.std.specs.declared.cmp.Ordering.{Ordering}
use Rattle.std.specs.declared.cmp.Ordering.TheVariants.{Less, Equal, Greater}
use Rattle.std.specs.Ordering.{is_lt, is_gt, is_le, is_ne}
use Rattle.std.specs.List.{AllByRecursion, AllWithin, last_or, slice_get}
use Rattle.std.specs.Option.{option_or}
use Rattle.std.specs.List.Sorted.{IsStrictlySortedBy}
use Rattle.std.proofs.lemmas.Bool.{cases_lt, false_from_ne_true}
use Rattle.std.proofs.lemmas.Cmp.{tied_itself}
use Rattle.std.proofs.lemmas.List.{append-nil, append_assoc, get_or-drop, length-drop}
use Rattle.std.proofs.lemmas.List.Folds.{find-append}
use Rattle.std.proofs.lemmas.List.Elements.{All-nil, All-cons, All-head, All-tail, All-weaker, All-from_recursion, recursion_from_All, All-contains, All-drop, AllWithin-from_all, Contains-append_left, Contains-append_right, Contains-append_cases, filter-append}
use Rattle.std.proofs.lemmas.Map.Keys.{sorted_head}
use Rattle.key_pages.specs.declared.entries.Entry.{Entry}
use Rattle.key_pages.specs.declared.positions.Position.{Position}
use Rattle.key_pages.specs.Order.{entry_cmp, IsInOrder}
use Rattle.key_pages.specs.EntryList.{with_entry, without_entry}
use Rattle.key_pages.specs.Position.{side_of, is_past, is_short, next_entry, prior_entry}
use Rattle.key_pages.specs.Search.{is_passed, IsAt, IsGapFor}
use Rattle.key_pages.specs.PageList.{entries_of, page_at, with_page, begins_passed, IsPlace, IsNearest, IsIn, IsGapIn}
use Rattle.key_pages.proofs.PageLemmas.{entries_of-around}
use Rattle.key_pages.proofs.Splits.{filter-none, filter-all, filter-front, find-split, last_or-take}
use Rattle.key_pages.proofs.OrderLemmas.{entry_total, below_middle}
use Rattle.key_pages.proofs.SideLemmas.{Less-before_le, passed_before, next_entry-at, past-not_passed}

front_recursion : {K : Type 0} (P : K → Type 0) (xs ys : List K) → AllByRecursion P (xs ++ ys) → AllByRecursion P xs
front_recursion P [] ys all = tt
front_recursion P (x ∷ xs) ys all = (all.0, front_recursion P xs ys all.1)

module _ {K : Type 0} (c : K → K → Ordering) where
  -- parts of a list in order are in order
  pub sorted_front : (xs ys : List K) → IsStrictlySortedBy c (xs ++ ys) → IsStrictlySortedBy c xs
  unfolding IsStrictlySortedBy
  sorted_front [] ys sorted = tt
  sorted_front (x ∷ xs) ys sorted = (front_recursion (λ y. c x y ≡ Less) xs ys sorted.0, sorted_front xs ys sorted.1)

  pub sorted_back : (xs ys : List K) → IsStrictlySortedBy c (xs ++ ys) → IsStrictlySortedBy c ys
  unfolding IsStrictlySortedBy
  sorted_back [] ys sorted = sorted
  sorted_back (x ∷ xs) ys sorted = sorted_back xs ys sorted.1

  pub sorted_middle : (xs ys zs : List K) → IsStrictlySortedBy c (xs ++ (ys ++ zs)) → IsStrictlySortedBy c ys
  sorted_middle xs ys zs sorted = sorted_front ys zs (sorted_back xs (ys ++ zs) sorted)

-- lists around one, with a test that none of them passes, or each
module _ {X : Type 0} (p : X → Bool) where
  passing : (xs : List X) → All (λ x. p x ≡ true) xs → filter p xs ≡ xs
  passing xs all = filter-all p xs (AllWithin-from_all (λ x. p x ≡ true) xs all)

  failing : (xs : List X) → All (λ x. p x ≡ false) xs → filter p xs ≡ []
  failing xs all = filter-none p xs (AllWithin-from_all (λ x. p x ≡ false) xs all)

  pub filter-around : (front page back : List X) → filter p (front ++ (page ++ back)) ≡ filter p front ++ (filter p page ++ filter p back)
  filter-around front page back = filter-append p front (page ++ back) ∙ ap (λ rest. filter p front ++ rest) (filter-append p page back)

  pub find-none : (xs : List X) → All (λ x. p x ≡ false) xs → find p xs ≡ None
  find-none [] all = refl
  find-none (x ∷ xs) all = rw (All-head (λ x. p x ≡ false) x xs all) (find-none xs (All-tail (λ x. p x ≡ false) x xs all))

  pub find-head : (xs : List X) → All (λ x. p x ≡ true) xs → find p xs ≡ slice_get xs 0
  find-head xs all = find-split p xs 0 (λ k d low high. absurd (omega arith)) (AllWithin-from_all (λ x. p x ≡ true) xs all)

last_or-append : {X : Type 0} (o : Option X) (xs ys : List X) → last_or o (xs ++ ys) ≡ last_or (last_or o xs) ys
last_or-append o [] ys = refl
last_or-append o (x ∷ xs) ys = last_or-append (Some x) xs ys

module _ (falling : Bool) (entry : Entry) (front page back : List Entry) (before : All (λ other. entry_cmp falling other entry ≡ Less) front) (after : All (λ other. entry_cmp falling other entry ≡ Greater) back) where
  -- an insert and a removal change the page alone
  pub with_entry-around : with_entry falling entry (front ++ (page ++ back)) ≡ front ++ (with_entry falling entry page ++ back)
  with_entry-around =
      let lt : Entry → Bool = λ other. is_lt (entry_cmp falling other entry) in
      let gt : Entry → Bool = λ other. is_gt (entry_cmp falling other entry) in
      let lesser = filter lt page in
      let greater = filter gt page in
      let front_lt = passing lt front (All-weaker (λ o. entry_cmp falling o entry ≡ Less) (λ o. lt o ≡ true) (λ o is. ap is_lt is) front before) in
      let back_lt = failing lt back (All-weaker (λ o. entry_cmp falling o entry ≡ Greater) (λ o. lt o ≡ false) (λ o is. ap is_lt is) back after) in
      let front_gt = failing gt front (All-weaker (λ o. entry_cmp falling o entry ≡ Less) (λ o. gt o ≡ false) (λ o is. ap is_gt is) front before) in
      let back_gt = passing gt back (All-weaker (λ o. entry_cmp falling o entry ≡ Greater) (λ o. gt o ≡ true) (λ o is. ap is_gt is) back after) in
      let low : filter lt (front ++ (page ++ back)) ≡ front ++ lesser =
      filter-around lt front page back ∙ (ap (λ xs. xs ++ (lesser ++ filter lt back)) front_lt ∙ (ap (λ xs. front ++ (lesser ++ xs)) back_lt ∙ ap (λ xs. front ++ xs) (append-nil lesser))) in
      let high : filter gt (front ++ (page ++ back)) ≡ greater ++ back =
      filter-around gt front page back ∙ (ap (λ xs. xs ++ (greater ++ filter gt back)) front_gt ∙ ap (λ xs. greater ++ xs) back_gt) in
      ap (λ xs. xs ++ entry ∷ filter gt (front ++ (page ++ back))) low
      ∙ (ap (λ xs. (front ++ lesser) ++ entry ∷ xs) high
      ∙ (append_assoc front lesser (entry ∷ (greater ++ back)) ∙ ap (λ xs. front ++ xs) (sym (append_assoc lesser (entry ∷ greater) back))))

  pub without_entry-around : without_entry falling entry (front ++ (page ++ back)) ≡ front ++ (without_entry falling entry page ++ back)
  without_entry-around =
      let ne : Entry → Bool = λ other. is_ne (entry_cmp falling other entry) in
      let front_ne = passing ne front (All-weaker (λ o. entry_cmp falling o entry ≡ Less) (λ o. ne o ≡ true) (λ o is. ap is_ne is) front before) in
      let back_ne = passing ne back (All-weaker (λ o. entry_cmp falling o entry ≡ Greater) (λ o. ne o ≡ true) (λ o is. ap is_ne is) back after) in
      filter-around ne front page back ∙ (ap (λ xs. xs ++ (filter ne page ++ filter ne back)) front_ne ∙ ap (λ xs. front ++ (filter ne page ++ xs)) back_ne)

  -- the entry is in the page where it is there at all
  pub Contains-around : Contains page entry → Contains (front ++ (page ++ back)) entry
  Contains-around there = Contains-append_right front (page ++ back) entry (Contains-append_left page back entry there)

  pub absent-around : (¬ Contains page entry) → ¬ Contains (front ++ (page ++ back)) entry
  absent-around absent = λ there.
      let itself = tied_itself (entry_total falling) entry in
      elim (Contains-append_cases front (page ++ back) entry there) [
        | inl early ↦ let less = All-contains (λ o. entry_cmp falling o entry ≡ Less) front entry before early in cc
        | inr rest ↦ elim (Contains-append_cases page back entry rest) [
          | inl here ↦ absurd (absent here)
          | inr late ↦ let greater = All-contains (λ o. entry_cmp falling o entry ≡ Greater) back entry after late in cc
        ]
      ]

-- entries before a page that begins at or before the position
pub front_passed : (itself falling : Bool) (from : Position) (front page back : List Entry) → IsInOrder falling (front ++ (page ++ back)) → begins_passed itself falling from page ≡ true → All (λ e. is_passed itself (side_of falling from e) ≡ true) front
front_passed itself falling from front [] back sorted begun = cc
front_passed itself falling from front (h ∷ page) back sorted begun =
    All-weaker (λ e. entry_cmp falling e h ≡ Less) (λ e. is_passed itself (side_of falling from e) ≡ true) (λ e less. passed_before itself falling from e h less begun) front
    (All-from_recursion (λ e. entry_cmp falling e h ≡ Less) front (below_middle (entry_cmp falling) (entry_total falling) front h (page ++ back) sorted))

-- entries from a page on that begins past the position
pub back_ahead : (itself falling : Bool) (from : Position) (pages : List (List Entry)) → All (λ page. 0 < length page) pages → IsInOrder falling (entries_of pages) → (0 < length pages → begins_passed itself falling from (page_at pages 0) ≡ false) → All (λ e. is_passed itself (side_of falling from e) ≡ false) (entries_of pages)
back_ahead itself falling from [] some sorted ahead = All-nil (λ e. is_passed itself (side_of falling from e) ≡ false)
back_ahead itself falling from ([] ∷ pages) some sorted ahead = let none = All-head (λ page. 0 < length page) [] pages some in absurd (omega arith)
back_ahead itself falling from ((h ∷ page) ∷ pages) some sorted ahead =
    let first : is_passed itself (side_of falling from h) ≡ false = ahead (omega arith) in
    All-cons (λ e. is_passed itself (side_of falling from e) ≡ false) h (page ++ entries_of pages) first
    (All-weaker (λ e. entry_cmp falling h e ≡ Less) (λ e. is_passed itself (side_of falling from e) ≡ false)
    (λ e less. false_from_ne_true _ (λ passed. let also = passed_before itself falling from h e less passed in cc)) (page ++ entries_of pages)
    (All-from_recursion (λ e. entry_cmp falling h e ≡ Less) (page ++ entries_of pages) (sorted_head (entry_cmp falling) h (page ++ entries_of pages) sorted)))

-- entries before a page that begins at or before an entry are less than that
front_less : (falling : Bool) (entry : Entry) (front : List Entry) (h : Entry) (page back : List Entry) → IsInOrder falling (front ++ ((h ∷ page) ++ back)) → is_le (entry_cmp falling h entry) ≡ true → All (λ e. entry_cmp falling e entry ≡ Less) front
front_less falling entry front h page back sorted upto =
    All-weaker (λ e. entry_cmp falling e h ≡ Less) (λ e. entry_cmp falling e entry ≡ Less) (λ e less. Less-before_le (entry_cmp falling) (entry_total falling) e h entry less upto) front
    (All-from_recursion (λ e. entry_cmp falling e h ≡ Less) front (below_middle (entry_cmp falling) (entry_total falling) front h (page ++ back) sorted))

Greater-from_not_le : (found : Ordering) → is_le found ≡ false → found ≡ Greater
Greater-from_not_le Less above = cc
Greater-from_not_le Equal above = cc
Greater-from_not_le Greater above = refl

back_recursion : {K : Type 0} (P : K → Type 0) (xs ys : List K) → AllByRecursion P (xs ++ ys) → AllByRecursion P ys
back_recursion P [] ys all = all
back_recursion P (x ∷ xs) ys all = back_recursion P xs ys all.1

module _ {K : Type 0} (P : K → Type 0) where
  All-front : (xs ys : List K) → All P (xs ++ ys) → All P xs
  All-front xs ys all = All-from_recursion P xs (front_recursion P xs ys (recursion_from_All P (xs ++ ys) all))

  All-back : (xs ys : List K) → All P (xs ++ ys) → All P ys
  All-back xs ys all = All-from_recursion P ys (back_recursion P xs ys (recursion_from_All P (xs ++ ys) all))

-- the first entry from a page on is that of the page, where no page is empty
first-from : (pages : List (List Entry)) (n : ℕ) → All (λ page. 0 < length page) pages → slice_get (page_at pages n) 0 ≡ slice_get (entries_of (drop n pages)) 0
first-from [] zero some = refl
first-from [] (suc n) some = refl
first-from ([] ∷ pages) zero some = let none = All-head (λ page. 0 < length page) [] pages some in absurd (omega arith)
first-from ((h ∷ page) ∷ pages) zero some = refl
first-from (page ∷ pages) (suc n) some = first-from pages n (All-tail (λ page. 0 < length page) page pages some)

module _ (itself falling : Bool) (from : Position) (pages : List (List Entry)) (some : All (λ page. 0 < length page) pages) (sorted : IsInOrder falling (entries_of pages)) where
  -- the entries after a page, where the next one begins past the position
  later-ahead : (n : ℕ) → n < length pages → (n + 1 < length pages → begins_passed itself falling from (page_at pages (n + 1)) ≡ false) → All (λ e. is_passed itself (side_of falling from e) ≡ false) (entries_of (drop (n + 1) pages))
  later-ahead n within ahead =
      let rest = drop (n + 1) pages in
      let around : IsInOrder falling (with_page pages n (page_at pages n)) = subst (λ es. IsInOrder falling es) (sym (entries_of-around pages n within)) sorted in
      let later : IsInOrder falling (entries_of rest) = sorted_back (entry_cmp falling) (page_at pages n) (entries_of rest) (sorted_back (entry_cmp falling) (entries_of (take n pages)) (page_at pages n ++ entries_of rest) around) in
      back_ahead itself falling from rest (All-drop (λ page. 0 < length page) (n + 1) pages some) later
      (λ more. let long = length-drop (n + 1) pages in let at : n + 1 + 0 ≡ n + 1 = omega arith in
      ap (begins_passed itself falling from) (get_or-drop (n + 1) pages 0 [] ∙ ap (λ k. page_at pages k) at) ∙ ahead (omega arith))

  around-sorted : (n : ℕ) → n < length pages → IsInOrder falling (with_page pages n (page_at pages n))
  around-sorted n within = subst (λ es. IsInOrder falling es) (sym (entries_of-around pages n within)) sorted

  pub page-sorted : (n : ℕ) → n < length pages → IsInOrder falling (page_at pages n)
  page-sorted n within = sorted_middle (entry_cmp falling) (entries_of (take n pages)) (page_at pages n) (entries_of (drop (n + 1) pages)) (around-sorted n within)

  -- after the first page, and within it, where none begins at or before the position
  first-ahead : All (λ e. is_passed itself (side_of falling from e) ≡ false) (entries_of pages) → All (λ e. is_passed itself (side_of falling from e) ≡ false) (page_at pages 0) × All (λ e. is_passed itself (side_of falling from e) ≡ false) (entries_of (drop (0 + 1) pages))
  first-ahead all =
      let ahead_is : Entry → Type 0 = λ e. is_passed itself (side_of falling from e) ≡ false in
      elim pages as (λ ps. All ahead_is (entries_of ps) → All ahead_is (page_at ps 0) × All ahead_is (entries_of (drop (0 + 1) ps))) [
        | [] ↦ λ _. (All-nil ahead_is, All-nil ahead_is)
        | page ∷ rest ↦ λ each. (All-front ahead_is page (entries_of rest) each, All-back ahead_is page (entries_of rest) each)
      ] all

  pub place-first : (begun : ℕ) → begun ≡ 0 → (begun < length pages → begins_passed itself falling from (page_at pages begun) ≡ false) → IsPlace itself falling from pages 0 0
  place-first begun none ahead =
      let ahead_is : Entry → Type 0 = λ e. is_passed itself (side_of falling from e) ≡ false in
      let all = back_ahead itself falling from pages some sorted (λ more. subst (λ n. begins_passed itself falling from (page_at pages n) ≡ false) none (ahead (omega arith))) in
      let both = first-ahead all in
      record {
        page = omega arith;
        within = omega arith;
        front = All-nil (λ e. is_passed itself (side_of falling from e) ≡ true);
        passed = λ k d low high. absurd (omega arith);
        ahead = AllWithin-from_all ahead_is (page_at pages 0) both.0;
        back = both.1;
        first = λ _. refl;
        next = first-from pages (0 + 1) some;
      }

  not-first : (page : List Entry) (place : ℕ) → begins_passed itself falling from page ≡ true → AllWithin (λ e. is_passed itself (side_of falling from e) ≡ false) page place (length page) → place ≡ 0 → ⊥
  not-first [] place begun ahead none = cc
  not-first (h ∷ page) place begun ahead none = let above = ahead 0 h (omega arith) (omega arith) in cc

  pub place-at : (begun number place : ℕ) → begun ≡ number + 1 → number < length pages → begins_passed itself falling from (page_at pages number) ≡ true → (begun < length pages → begins_passed itself falling from (page_at pages begun) ≡ false)
      → place ≤ length (page_at pages number) → AllWithin (λ e. is_passed itself (side_of falling from e) ≡ true) (page_at pages number) 0 place → AllWithin (λ e. is_passed itself (side_of falling from e) ≡ false) (page_at pages number) place (length (page_at pages number))
      → IsPlace itself falling from pages number place
  place-at begun number place next within begins ahead upto passed rest = record {
    page = omega arith;
    within = upto;
    front = front_passed itself falling from (entries_of (take number pages)) (page_at pages number) (entries_of (drop (number + 1) pages)) (around-sorted number within) begins;
    passed = passed;
    ahead = rest;
    back = later-ahead number within (λ more. subst (λ n. begins_passed itself falling from (page_at pages n) ≡ false) next (ahead (omega arith)));
    first = λ none. absurd (not-first (page_at pages number) place begins rest none);
    next = first-from pages (number + 1) some;
  }

-- the page that an entry stands in, if it is there
module _ (falling : Bool) (from : Position) (entry : Entry) (side : (e : Entry) → side_of falling from e ≡ entry_cmp falling e entry) (pages : List (List Entry)) (some : All (λ page. 0 < length page) pages) (sorted : IsInOrder falling (entries_of pages)) where
  greater : (es : List Entry) → All (λ e. is_passed true (side_of falling from e) ≡ false) es → All (λ e. entry_cmp falling e entry ≡ Greater) es
  greater es all = All-weaker (λ e. is_passed true (side_of falling from e) ≡ false) (λ e. entry_cmp falling e entry ≡ Greater) (λ e above. Greater-from_not_le (entry_cmp falling e entry) (ap is_le (sym (side e)) ∙ above)) es all

  less : (front page back : List Entry) → IsInOrder falling (front ++ (page ++ back)) → begins_passed true falling from page ≡ true → All (λ e. entry_cmp falling e entry ≡ Less) front
  less front [] back order begun = cc
  less front (h ∷ page) back order begun = front_less falling entry front h page back order (ap is_le (sym (side h)) ∙ begun)

  pub nearest-first : (begun : ℕ) → begun ≡ 0 → (begun < length pages → begins_passed true falling from (page_at pages begun) ≡ false) → IsNearest falling entry pages 0
  nearest-first begun none ahead =
      let place = place-first true falling from pages some sorted begun none ahead in
      record { within = omega arith; front = All-nil (λ e. entry_cmp falling e entry ≡ Less); back = greater (entries_of (drop (0 + 1) pages)) place.back }

  pub nearest-at : (begun number : ℕ) → begun ≡ number + 1 → number < length pages → begins_passed true falling from (page_at pages number) ≡ true → (begun < length pages → begins_passed true falling from (page_at pages begun) ≡ false) → IsNearest falling entry pages number
  nearest-at begun number next within begins ahead = record {
    within = omega arith;
    front = less (entries_of (take number pages)) (page_at pages number) (entries_of (drop (number + 1) pages)) (around-sorted true falling from pages some sorted number within) begins;
    back = greater (entries_of (drop (number + 1) pages)) (later-ahead true falling from pages some sorted number within (λ more. subst (λ n. begins_passed true falling from (page_at pages n) ≡ false) next (ahead (omega arith))));
  }

  pub nearest : (begun : ℕ) → begun ≤ length pages → (0 < begun → begins_passed true falling from (page_at pages (begun - 1)) ≡ true) → (begun < length pages → begins_passed true falling from (page_at pages begun) ≡ false) → IsNearest falling entry pages (begun - 1)
  nearest begun within begins ahead =
      elim (cases_lt 0 begun) [
        | inl more ↦ nearest-at begun (begun - 1) (omega arith) (omega arith) (begins more) ahead
        | inr none ↦ let zeroth : begun ≡ 0 = omega arith in let first : begun - 1 ≡ 0 = omega arith in subst (λ n. IsNearest falling entry pages n) (sym first) (nearest-first begun zeroth ahead)
      ]

-- what is known of an entry in its page is known in the whole list
module _ (falling : Bool) (entry : Entry) (pages : List (List Entry)) (number : ℕ) (near : IsNearest falling entry pages number) (within : number < length pages) where
  pub in-pages : (place : ℕ) → IsAt falling entry (page_at pages number) place → IsIn falling entry pages number place
  in-pages place at =
      let front = entries_of (take number pages) in
      let page = page_at pages number in
      let back = entries_of (drop (number + 1) pages) in
      let whole = entries_of-around pages number within in
      record {
        within = within;
        here = at.here;
        there = subst (λ es. Contains es entry) whole (Contains-around falling entry front page back near.front near.back at.there);
        removed = ap (λ p. front ++ (p ++ back)) at.removed ∙ (sym (without_entry-around falling entry front page back near.front near.back) ∙ ap (without_entry falling entry) whole);
      }

  pub gap-in-pages : (place : ℕ) → IsGapFor falling entry (page_at pages number) place → IsGapIn falling entry pages number place
  gap-in-pages place gap =
      let front = entries_of (take number pages) in
      let page = page_at pages number in
      let back = entries_of (drop (number + 1) pages) in
      let whole = entries_of-around pages number within in
      record {
        absent = subst (λ es. ¬ Contains es entry) whole (absent-around falling entry front page back near.front near.back gap.absent);
        inserted = ap (λ p. front ++ (p ++ back)) gap.inserted ∙ (sym (with_entry-around falling entry front page back near.front near.back) ∙ ap (with_entry falling entry) whole);
        unchanged = sym whole ∙ (ap (λ p. front ++ (p ++ back)) gap.unchanged ∙ (sym (without_entry-around falling entry front page back near.front near.back) ∙ ap (without_entry falling entry) whole));
      }

pub if_ok_weaker : {A E : Type 0} (P Q : A → Type 0) (r : Result A E) → ((a : A) → P a → Q a) → IfOk r P → IfOk r Q
if_ok_weaker P Q (Ok a) step holds = step a holds
if_ok_weaker P Q (Err e) step holds = tt

pub if_err_weaker : {A E : Type 0} (P Q : E → Type 0) (r : Result A E) → ((e : E) → P e → Q e) → IfErr r P → IfErr r Q
if_err_weaker P Q (Ok a) step holds = tt
if_err_weaker P Q (Err e) step holds = step e holds

-- what a search for a position says of the entries next to it
module _ (falling : Bool) (from : Position) (pages : List (List Entry)) (number place : ℕ) (around : with_page pages number (page_at pages number) ≡ entries_of pages) where
  pub next-at : IsPlace true falling from pages number place → next_entry falling from (entries_of pages) ≡ option_or (slice_get (page_at pages number) place) (slice_get (page_at pages (number + 1)) 0)
  next-at is =
      let past : Entry → Bool = is_past falling from in
      let front = entries_of (take number pages) in
      let page = page_at pages number in
      let back = entries_of (drop (number + 1) pages) in
      let none = find-none past front (All-weaker (λ e. is_passed true (side_of falling from e) ≡ true) (λ e. past e ≡ false) (λ e passed. past-not_passed _ true passed) front is.front) in
      let later = find-head past back (All-weaker (λ e. is_passed true (side_of falling from e) ≡ false) (λ e. past e ≡ true) (λ e ahead. past-not_passed _ false ahead) back is.back) in
      ap (find past) (sym around)
      ∙ (find-append past front (page ++ back)
      ∙ (ap (λ o. option_or o (find past (page ++ back))) none
      ∙ (find-append past page back
      ∙ (ap (λ o. option_or o (find past back)) (next_entry-at falling from page place is.passed is.ahead)
      ∙ ap (λ o. option_or (slice_get page place) o) (later ∙ sym is.next)))))

  pub prior-none : IsPlace false falling from pages number place → place ≡ 0 → prior_entry falling from (entries_of pages) ≡ None
  prior-none is first =
      let short : Entry → Bool = is_short falling from in
      let page = page_at pages number in
      let back = entries_of (drop (number + 1) pages) in
      let zeroth = is.first first in
      let nothing : entries_of (take number pages) ≡ [] = ap (λ n. entries_of (take n pages)) zeroth in
      let none = filter-none short page (subst (λ n. AllWithin (λ e. is_passed false (side_of falling from e) ≡ false) page n (length page)) first is.ahead) in
      ap (λ es. last_or None (filter short es)) (sym around)
      ∙ (ap (last_or None) (filter-around short (entries_of (take number pages)) page back)
      ∙ (ap (λ es. last_or None (filter short es ++ (filter short page ++ filter short back))) nothing
      ∙ (ap (λ es. last_or None (es ++ filter short back)) none ∙ ap (last_or None) (failing short back is.back))))

  pub prior-at : (before : ℕ) → IsPlace false falling from pages number place → place ≡ before + 1 → prior_entry falling from (entries_of pages) ≡ slice_get (page_at pages number) before
  prior-at before is next =
      let short : Entry → Bool = is_short falling from in
      let front = entries_of (take number pages) in
      let page = page_at pages number in
      let back = entries_of (drop (number + 1) pages) in
      let upto = is.within in
      let here = filter-front short page place is.passed is.ahead in
      let after : place ≡ suc before = omega arith in
      ap (λ es. last_or None (filter short es)) (sym around)
      ∙ (ap (last_or None) (filter-around short front page back)
      ∙ (last_or-append None (filter short front) (filter short page ++ filter short back)
      ∙ (ap (λ es. last_or (last_or None (filter short front)) (filter short page ++ es)) (failing short back is.back)
      ∙ (ap (last_or (last_or None (filter short front))) (append-nil (filter short page) ∙ (here ∙ ap (λ n. take n page) after))
      ∙ last_or-take (last_or None (filter short front)) page before (omega arith)))))
