-- The keys that begin with some bytes stand together, so the next of them is the next entry, where that begins with them.
use Rattle.std.proofs.Common.{◌≡◌, ℕ, Bor, Bool, true, false, cond, ◌&&◌, ◌||◌, Option, Some, None, List, [], ◌∷◌, length, take, refl, sym, ◌∙◌, ap}
use Rattle.std.specs.Prelude.{find, filter, reverse}
use Rattle.std.specs.List.{AllByRecursion}
use Rattle.std.specs.List.Sorted.{IsStrictlySortedBy}
use Rattle.std.specs.declared.cmp.Ordering.{Ordering}
use Rattle.std.specs.declared.cmp.Ordering.TheVariants.{Less, Equal, Greater}
use Rattle.std.specs.Ordering.{ordering_then, ordering_reverse, is_lt, is_le, is_gt, is_eq, nat_cmp}
use Rattle.std.proofs.lemmas.Bool.{cond-true, cond-false}
use Rattle.std.proofs.lemmas.Cmp.{nat_list_cmp_total, tied_itself}
use Rattle.key_pages.specs.declared.entries.Entry.{Entry}
use Rattle.key_pages.specs.Order.{key_cmp, entry_cmp, tie_cmp, IsInOrder}
use Rattle.key_pages.specs.declared.positions.Position.TheVariants as pages
use Rattle.key_pages.specs.Position.{is_less, is_short}
use Rattle.key_pages.specs.Position as sides
use Rattle.key_pages.proofs.SideLemmas.{cut_rises, is_upto-cut}
use Rattle.key_pages.proofs.OrderLemmas.{entry_total}
use Rattle.access_path.specs.KeptEntries.{entry_with}
use Rattle.join_rows.specs.Search.{compare_part, begins_with, is_match_after, next_match, prior_match, last_match}
use Rattle.access_path.proofs.OrderedLemmas.{Pairwise}
use Rattle.join_rows.proofs.WalkLemmas.{pair-reverse, where_near, found-near, find-none, walked}
use Rattle.join_rows.proofs.OptionLemmas.{true-false}

first-not-above : (first second : Ordering) → ordering_then first second ≡ Less → is_gt first ≡ false
first-not-above Less second h = refl
first-not-above Equal second h = refl
first-not-above Greater second h = cc

gt-not-below : (first second : Ordering) → is_gt (ordering_then first second) ≡ true → is_gt (ordering_reverse first) ≡ false
gt-not-below Less second h = true-false (sym h)
gt-not-below Equal second h = refl
gt-not-below Greater second h = refl

lt-not-above : (first second : Ordering) → is_lt (ordering_then first second) ≡ true → is_gt first ≡ false
lt-not-above Less second h = refl
lt-not-above Equal second h = refl
lt-not-above Greater second h = true-false (sym h)

sorted-pairs : (falling : Bool) (entries : List Entry) → IsInOrder falling entries → Pairwise (λ a b. entry_cmp falling a b ≡ Less) entries
unfolding IsStrictlySortedBy
sorted-pairs falling [] sorted = tt
sorted-pairs falling (a ∷ entries) sorted = (sorted.0, sorted-pairs falling entries sorted.1)

-- ---- cut keys

module _ (falling : Bool) (part : List ℕ) where
  abbrev cut : Entry → List ℕ
  cut entry = take (length part) entry.key

  cut-upto : (a b : Entry) → entry_cmp falling a b ≡ Less → is_gt (key_cmp (cut a) (cut b)) ≡ false
  cut-upto a b less = cut_rises (length part) a.key b.key (first-not-above (key_cmp a.key b.key) (ordering_then (nat_cmp a.format b.format) (tie_cmp falling a.rrn b.rrn)) less)

  -- behind a greater key none begins with the bytes
  none-above : (a b : Entry) → entry_cmp falling a b ≡ Less → compare_part part a.key ≡ Greater → begins_with part b ≡ false
  none-above a b less greater = by (compare_part part b.key) refl
    where
      by : (o : Ordering) → compare_part part b.key ≡ o → is_eq (compare_part part b.key) ≡ false
      by Less is = ap is_eq is
      by Greater is = ap is_eq is
      by Equal is =
          let turned : key_cmp part (cut a) ≡ Less = nat_list_cmp_total.antisymm part (cut a) ∙ ap ordering_reverse greater in
          let above : key_cmp (cut a) (cut b) ≡ Greater =
          nat_list_cmp_total.antisymm (cut a) (cut b) ∙ ap ordering_reverse (nat_list_cmp_total.congr (cut b) part (cut a) is ∙ turned) in
          true-false (sym (ap is_gt above) ∙ cut-upto a b less)

  -- before a lesser key none begins with the bytes
  none-below : (a b : Entry) → entry_cmp falling b a ≡ Less → compare_part part a.key ≡ Less → begins_with part b ≡ false
  none-below a b less lesser = by (compare_part part b.key) refl
    where
      by : (o : Ordering) → compare_part part b.key ≡ o → is_eq (compare_part part b.key) ≡ false
      by Less is = ap is_eq is
      by Greater is = ap is_eq is
      by Equal is =
          let turned : key_cmp part (cut a) ≡ Greater = nat_list_cmp_total.antisymm part (cut a) ∙ ap ordering_reverse lesser in
          let above : key_cmp (cut b) (cut a) ≡ Greater = nat_list_cmp_total.congr (cut b) part (cut a) is ∙ turned in
          true-false (sym (ap is_gt above) ∙ cut-upto b a less)

  far-above : (a b : Entry) → is_lt (compare_part part a.key) ≡ false → begins_with part a ≡ false → entry_cmp falling a b ≡ Less → begins_with part b ≡ false
  far-above a b upto other less = by (compare_part part a.key) refl upto other
    where
      by : (o : Ordering) → compare_part part a.key ≡ o → is_lt o ≡ false → is_eq o ≡ false → begins_with part b ≡ false
      by Less is h k = true-false h
      by Equal is h k = true-false k
      by Greater is h k = none-above a b less is

  far-below : (a b : Entry) → is_gt (compare_part part a.key) ≡ false → begins_with part a ≡ false → entry_cmp falling b a ≡ Less → begins_with part b ≡ false
  far-below a b upto other less = by (compare_part part a.key) refl upto other
    where
      by : (o : Ordering) → compare_part part a.key ≡ o → is_gt o ≡ false → is_eq o ≡ false → begins_with part b ≡ false
      by Less is h k = none-below a b less is
      by Equal is h k = true-false k
      by Greater is h k = true-false h

module _ (falling : Bool) (part key : List ℕ) (rrn : ℕ) (begins : take (length part) key ≡ part) where
  abbrev at : Entry
  at = entry_with 0 rrn key

  -- an entry past a key that begins with the bytes isn't less than they are
  past-upto : (a : Entry) → is_gt (entry_cmp falling a at) ≡ true → is_lt (compare_part part a.key) ≡ false
  past-upto a h =
      let low : is_gt (key_cmp key a.key) ≡ false =
      ap is_gt (nat_list_cmp_total.antisymm key a.key) ∙ gt-not-below (key_cmp a.key key) (ordering_then (nat_cmp a.format 0) (tie_cmp falling a.rrn rrn)) h in
      let same : is_gt (key_cmp part (take (length part) a.key)) ≡ false =
      ap (λ w. is_gt (key_cmp w (take (length part) a.key))) (sym begins) ∙ cut_rises (length part) key a.key low in
      ap is_lt (nat_list_cmp_total.antisymm (take (length part) a.key) part) ∙ turned (key_cmp part (take (length part) a.key)) same
    where
      turned : (o : Ordering) → is_gt o ≡ false → is_lt (ordering_reverse o) ≡ false
      turned Less h = refl
      turned Equal h = refl
      turned Greater h = true-false h

  before-upto : (a : Entry) → is_lt (entry_cmp falling a at) ≡ true → is_gt (compare_part part a.key) ≡ false
  before-upto a h =
      let low : is_gt (key_cmp a.key key) ≡ false = lt-not-above (key_cmp a.key key) (ordering_then (nat_cmp a.format 0) (tie_cmp falling a.rrn rrn)) h in
      ap (λ w. is_gt (key_cmp (take (length part) a.key) w)) (sym begins) ∙ cut_rises (length part) a.key key low

  pub next-match : (entries : List Entry) → IsInOrder falling entries
      → where_near (begins_with part) (find (λ entry. is_gt (entry_cmp falling entry at)) entries) ≡ next_match falling part key rrn entries
  next-match entries sorted =
      found-near (λ a b. entry_cmp falling a b ≡ Less) (begins_with part) (λ entry. is_gt (entry_cmp falling entry at))
      (λ a b past other less. far-above falling part a b (past-upto a past) other less) entries (sorted-pairs falling entries sorted)

  pub prior-match : (entries : List Entry) → IsInOrder falling entries
      → where_near (begins_with part) (find (λ entry. is_lt (entry_cmp falling entry at)) (reverse entries)) ≡ prior_match falling part key rrn entries
  prior-match entries sorted =
      found-near (λ a b. entry_cmp falling b a ≡ Less) (begins_with part) (λ entry. is_lt (entry_cmp falling entry at))
      (λ a b past other less. far-below falling part a b (before-upto a past) other less) (reverse entries)
      (pair-reverse (λ a b. entry_cmp falling a b ≡ Less) entries (sorted-pairs falling entries sorted))

-- what was found, where it begins with the bytes
pub near-then : (part : List ℕ) (entry : Entry) (found : Option Entry) → Some entry ≡ found → begins_with part entry ≡ true → Some entry ≡ where_near (begins_with part) found
near-then part entry found is starts = sym (cond-true (begins_with part entry) (Some entry) None starts) ∙ ap (where_near (begins_with part)) is

pub near-else : (part : List ℕ) (entry : Entry) (found : Option Entry) → Some entry ≡ found → begins_with part entry ≡ false → None ≡ where_near (begins_with part) found
near-else part entry found is other = sym (cond-false (begins_with part entry) (Some entry) None other) ∙ ap (where_near (begins_with part)) is

-- the last entry that isn't greater than the bytes
module _ (falling : Bool) (part : Bor (List ℕ)) where
  abbrev upto : Entry → Bool
  upto entry = is_short falling (pages.Past part) entry

  upto-le : (entry : Entry) → upto entry ≡ is_le (compare_part part.now entry.key)
  upto-le entry = shut (is_less entry.key part.now || sides.begins_with entry.key part.now) ∙ sym (is_upto-cut entry.key part.now)
    where
      shut : (b : Bool) → is_lt (cond b Less Greater) ≡ b
      shut true = refl
      shut false = refl

  le-not-above : (o : Ordering) → is_le o ≡ true → is_gt o ≡ false
  le-not-above Less h = refl
  le-not-above Equal h = refl
  le-not-above Greater h = true-false (sym h)

  eq-and-le : (o : Ordering) → (is_eq o && is_le o) ≡ is_eq o
  eq-and-le Less = refl
  eq-and-le Equal = refl
  eq-and-le Greater = refl

  pub last-match : (entries : List Entry) → IsInOrder falling entries → where_near (begins_with part.now) (find upto (reverse entries)) ≡ last_match part.now entries
  last-match entries sorted =
      found-near (λ a b. entry_cmp falling b a ≡ Less) (begins_with part.now) upto
      (λ a b is other less. far-below falling part.now a b (le-not-above (compare_part part.now a.key) (sym (upto-le a) ∙ is)) other less) (reverse entries)
      (pair-reverse (λ a b. entry_cmp falling a b ≡ Less) entries (sorted-pairs falling entries sorted))
      ∙ ap (λ (test : Entry → Bool). find test (reverse entries)) (λ i entry. same entry i)
    where
      same : (entry : Entry) → (begins_with part.now entry && upto entry) ≡ begins_with part.now entry
      same entry = ap (λ b. begins_with part.now entry && b) (upto-le entry) ∙ eq-and-le (compare_part part.now entry.key)

-- ---- walking

module _ (falling : Bool) (part : List ℕ) where
  abbrev IsFirst : Entry → Type 0
  IsFirst entry = entry.format ≡ 0

  -- an entry of the first format is at its own place
  at-place : (x : Entry) → IsFirst x → entry_with 0 x.rrn x.key ≡ x
  at-place x is = ap (λ n. entry_with n x.rrn x.key) (sym is)

  is-above : (a b : Entry) → entry_cmp falling a b ≡ Less → is_gt (entry_cmp falling b a) ≡ true
  is-above a b less = ap is_gt ((entry_total falling).antisymm b a ∙ ap ordering_reverse less)

  both-true : (s t : Bool) → (s && t) ≡ true → t ≡ true
  both-true true t h = h
  both-true false t h = true-false (sym h)

  and-false : (t : Bool) → (t && false) ≡ false
  and-false true = refl
  and-false false = refl

  module _ (key : List ℕ) (rrn : ℕ) where
    abbrev after : Entry → Bool
    after entry = is_match_after falling part key rrn entry

    abbrev rest_after : Entry → Entry → Bool
    rest_after x entry = is_match_after falling part x.key x.rrn entry

    still-past : (a b : Entry) → entry_cmp falling a b ≡ Less → is_gt (entry_cmp falling a (entry_with 0 rrn key)) ≡ true → is_gt (entry_cmp falling b (entry_with 0 rrn key)) ≡ true
    still-past a b less past =
        let at : Entry = entry_with 0 rrn key in
        let first : entry_cmp falling at a ≡ Less = (entry_total falling).antisymm at a ∙ less-of (entry_cmp falling a at) past in
        is-above at b ((entry_total falling).trans at a b first less)
      where
        less-of : (o : Ordering) → is_gt o ≡ true → ordering_reverse o ≡ Less
        less-of Less h = true-false (sym h)
        less-of Equal h = true-false (sym h)
        less-of Greater h = refl

    -- the next match, and the matches after it
    pub matches-from : (entries : List Entry) (x : Entry) → IsInOrder falling entries → AllByRecursion IsFirst entries
        → next_match falling part key rrn entries ≡ Some x → filter (is_match_after falling part key rrn) entries ≡ x ∷ filter (is_match_after falling part x.key x.rrn) entries
    matches-from entries x sorted first h =
        walked IsFirst (λ a b. entry_cmp falling a b ≡ Less) after rest_after
        (λ a b here less is. ap (λ (t : Bool). begins_with part b && t)
        (still-past a b less (both-true (begins_with part a) (is_gt (entry_cmp falling a (entry_with 0 rrn key))) is)
        ∙ sym (ap (λ e. is_gt (entry_cmp falling b e)) (at-place a here) ∙ is-above a b less)))
        (λ a here. ap (λ (t : Bool). begins_with part a && t) (ap (λ e. is_gt (entry_cmp falling a e)) (at-place a here) ∙ ap is_gt (tied_itself (entry_total falling) a)) ∙ and-false (begins_with part a))
        (λ a b there less. ap (λ (t : Bool). begins_with part a && t) (ap (λ e. is_gt (entry_cmp falling a e)) (at-place b there) ∙ ap is_gt less) ∙ and-false (begins_with part a))
        entries x first (sorted-pairs falling entries sorted) h

    pub no-match : (entries : List Entry) → next_match falling part key rrn entries ≡ None → filter (is_match_after falling part key rrn) entries ≡ []
    no-match entries h = find-none (is_match_after falling part key rrn) entries h
