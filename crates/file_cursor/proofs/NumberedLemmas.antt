-- What is found from a number among entries that stand by their numbers.
use Rattle.std.proofs.Common.{◌≡◌, ℕ, ◌≤◌, ◌<◌, ◌==◌, nat_le, nat_lt, Bool, true, false, cond, Some, None, List, [], ◌∷◌, reverse, refl, ap, sym, subst, ◌∙◌, arith, inl, inr}
use Rattle.std.specs.Prelude.{find}
use Rattle.std.specs.List.{AllByRecursion}
use Rattle.std.specs.Option.{option_or}
use Rattle.std.specs.declared.cmp.Ordering.TheVariants.{Less}
use Rattle.std.specs.Ordering.{nat_cmp, is_lt, is_gt}
use Rattle.std.specs.List.Sorted.{IsStrictlySortedBy}
use Rattle.std.specs.Prelude.{◌⊎◌}
use Rattle.std.proofs.lemmas.Bool.{cases_order, cond-true, cond-false}
use Rattle.std.proofs.lemmas.Cmp.{ranked}
use Rattle.std.proofs.lemmas.Bool.Decides.{nat_tests}
use Rattle.std.proofs.lemmas.List.Elements.{recursion_from_All}
use Rattle.std.proofs.lemmas.List.Folds.{find-append}
use Rattle.key_pages.specs.declared.entries.Entry.{Entry}
use Rattle.key_pages.specs.declared.positions.Position as declared
use Rattle.key_pages.specs.EntryList.{EntryList}
use Rattle.key_pages.specs.Order.{entry_cmp, IsInOrder}
use Rattle.key_pages.specs.Position as pages
use Rattle.member_slots.specs.declared.member.TheConstants.{MOST_SLOTS}
use Rattle.file_cursor.specs.declared.spot.Gap.{Gap}
use Rattle.file_cursor.specs.CursorPosition.{CursorPosition}
use Rattle.file_cursor.specs.Finding.{side_of, is_after, is_before, next_from, prior_from, chain_number, with_number}
use Rattle.file_cursor.specs.Reading.{numbered, AreNumbered, IsGap}
use Rattle.file_cursor.proofs.ListLemmas.{reverse-cons, last-reversed}

module _ {X : Type 0} (p q : X → Bool) where
  find-within : (xs : List X) → AllByRecursion (λ x. p x ≡ q x) xs → find p xs ≡ find q xs
  find-within [] same = refl
  find-within (x ∷ xs) same =
      ap (λ (b : Bool). cond b (Some x) (find p xs)) same.0 ∙ ap (λ o. cond (q x) (Some x) o) (find-within xs same.1)

  last-within : (xs : List X) → AllByRecursion (λ x. p x ≡ q x) xs → find p (reverse xs) ≡ find q (reverse xs)
  last-within [] same = refl
  last-within (x ∷ xs) same =
      ap (find p) (reverse-cons x xs)
      ∙ find-append p (reverse xs) (x ∷ [])
      ∙ ap (λ o. option_or o (find p (x ∷ []))) (last-within xs same.1)
      ∙ ap (λ (b : Bool). option_or (find q (reverse xs)) (cond b (Some x) None)) same.0
      ∙ sym (ap (find q) (reverse-cons x xs) ∙ find-append q (reverse xs) (x ∷ []))

-- what holds of each entry that stands by its number
each : (P : Entry → Type 0) → ((entry : Entry) → entry ≡ numbered entry.rrn → entry.rrn ≤ MOST_SLOTS → P entry)
    → (entries : List Entry) → AllByRecursion (λ entry. entry ≡ numbered entry.rrn) entries → AllByRecursion (λ entry. entry.rrn ≤ MOST_SLOTS) entries → AllByRecursion P entries
each P holds [] all few = tt
each P holds (e ∷ entries) all few = (holds e all.0 few.0, each P holds entries all.1 few.1)

module _ (list : EntryList) (are : AreNumbered list) (position : CursorPosition) where
  stand : AllByRecursion (λ entry. entry ≡ numbered entry.rrn) list.entries
  stand = recursion_from_All (λ entry. entry ≡ numbered entry.rrn) list.entries are.entries

  low : AllByRecursion (λ entry. entry.rrn ≤ MOST_SLOTS) list.entries
  low = recursion_from_All (λ entry. entry.rrn ≤ MOST_SLOTS) list.entries are.few

  module _ (from : declared.Position) where
    next-by : (test : Entry → Bool) → ((entry : Entry) → entry ≡ numbered entry.rrn → entry.rrn ≤ MOST_SLOTS → test entry ≡ is_after false position (numbered entry.rrn))
        → find test list.entries ≡ next_from list.falling list.entries position
    next-by test same =
        find-within test (is_after false position) list.entries
        (each (λ e. test e ≡ is_after false position e) (λ e is few. same e is few ∙ ap (λ (w : Entry). is_after false position w) (sym is)) list.entries stand low)
        ∙ ap (λ (b : Bool). next_from b list.entries position) (sym are.rising)

    pub next-numbered : (gap : Gap) → IsGap position gap
        → ((entry : Entry) → entry ≡ numbered entry.rrn → entry.rrn ≤ MOST_SLOTS → pages.is_past false from entry ≡ nat_le gap.from entry.rrn)
        → pages.next_entry list.falling from list.entries ≡ next_from list.falling list.entries position
    next-numbered gap is past =
        ap (λ (b : Bool). pages.next_entry b from list.entries) are.rising
        ∙ next-by (pages.is_past false from) (λ e by few. past e by few ∙ sym (is.after e.rrn))

    prior-by : ((entry : Entry) → entry ≡ numbered entry.rrn → entry.rrn ≤ MOST_SLOTS → pages.is_short false from entry ≡ is_before false position (numbered entry.rrn))
        → pages.prior_entry list.falling from list.entries ≡ prior_from list.falling list.entries position
    prior-by same =
        ap (λ (b : Bool). pages.prior_entry b from list.entries) are.rising
        ∙ last-reversed (pages.is_short false from) list.entries
        ∙ last-within (pages.is_short false from) (is_before false position) list.entries
        (each (λ e. pages.is_short false from e ≡ is_before false position e) (λ e is few. same e is few ∙ ap (λ (w : Entry). is_before false position w) (sym is)) list.entries stand low)
        ∙ ap (λ (b : Bool). prior_from b list.entries position) (sym are.rising)

    pub prior-numbered : (gap : Gap) → IsGap position gap
        → ((entry : Entry) → entry ≡ numbered entry.rrn → entry.rrn ≤ MOST_SLOTS → pages.is_short false from entry ≡ nat_lt entry.rrn gap.until)
        → pages.prior_entry list.falling from list.entries ≡ prior_from list.falling list.entries position
    prior-numbered gap is short = prior-by (λ e by few. short e by few ∙ sym (is.before e.rrn))

    pub prior-all : (until : ℕ) → MOST_SLOTS < until → ((n : ℕ) → side_of false position (numbered n) ≡ Less)
        → ((entry : Entry) → entry ≡ numbered entry.rrn → entry.rrn ≤ MOST_SLOTS → pages.is_short false from entry ≡ nat_lt entry.rrn until)
        → pages.prior_entry list.falling from list.entries ≡ prior_from list.falling list.entries position
    prior-all until past less short =
        prior-by (λ e by few. short e by few ∙ below e.rrn until (omega (arith, few, past)) ∙ sym (ap is_lt (less e.rrn)))
      where
        below : (n u : ℕ) → n < u → nat_lt n u ≡ true
        below n u low = grind (arith, nat_tests)

  find-never : (entries : List Entry) → find (λ (e : Entry). false) entries ≡ None
  find-never [] = refl
  find-never (e ∷ entries) = find-never entries

  pub next-never : ((n : ℕ) → side_of false position (numbered n) ≡ Less) → next_from list.falling list.entries position ≡ None
  next-never less =
      ap (λ (b : Bool). next_from b list.entries position) are.rising
      ∙ find-within (is_after false position) (λ e. false) list.entries
      (each (λ e. is_after false position e ≡ false) (λ e is few. ap (λ (w : Entry). is_after false position w) is ∙ ap is_gt (less e.rrn)) list.entries stand low)
      ∙ find-never list.entries

-- a numbered entry against another
pub number-cmp : (entry : Entry) (rrn : ℕ) → entry ≡ numbered entry.rrn → entry_cmp false entry (numbered rrn) ≡ nat_cmp entry.rrn rrn
number-cmp entry rrn is = ap (λ (w : Entry). entry_cmp false w (numbered rrn)) is

-- ---- one number

less-number : (a b : ℕ) → nat_cmp a b ≡ Less → a < b
less-number a b less = ranked a b Less (sym less)

above : (e : Entry) (entries : List Entry) → e ≡ numbered e.rrn → AllByRecursion (λ b. b ≡ numbered b.rrn) entries → AllByRecursion (λ b. entry_cmp false e b ≡ Less) entries
    → AllByRecursion (λ b. e.rrn < b.rrn) entries
above e [] is all less = tt
above e (b ∷ entries) is all less = (
  less-number e.rrn b.rrn
      (ap (λ (w : Entry). entry_cmp false w (numbered b.rrn)) (sym is) ∙ ap (λ (w : Entry). entry_cmp false e w) (sym all.0) ∙ less.0),
  above e entries is all.1 less.1,
)

none-above : (n m : ℕ) → n ≤ m → (entries : List Entry) → AllByRecursion (λ b. m < b.rrn) entries → chain_number n entries ≡ None
none-above n m low [] all = refl
none-above n m low (b ∷ entries) all =
    let far = all.0 in
    cond-false (b.rrn == n) (Some b) (chain_number n entries) (let h : n < b.rrn = omega (arith, low, far) in differ b.rrn n h)
    ∙ none-above n m low entries all.1
  where
    differ : (m n : ℕ) → n < m → (m == n) ≡ false
    differ m n less = grind (arith, nat_tests)

module _ (n : ℕ) where
  chain-numbered : (entries : List Entry) → AllByRecursion (λ e. e ≡ numbered e.rrn) entries → IsInOrder false entries
      → with_number n (find (λ e. nat_le n e.rrn) entries) ≡ chain_number n entries
  unfolding IsStrictlySortedBy
  chain-numbered [] all sorted = refl
  chain-numbered (e ∷ entries) all sorted = by (cases_order n e.rrn) (chain-numbered entries all.1 sorted.1) (above e entries all.0 all.1 sorted.0)
    where
      by : ((n ≡ e.rrn) ⊎ ((n < e.rrn) ⊎ (e.rrn < n))) → with_number n (find (λ e. nat_le n e.rrn) entries) ≡ chain_number n entries → AllByRecursion (λ b. e.rrn < b.rrn) entries
          → with_number n (find (λ e. nat_le n e.rrn) (e ∷ entries)) ≡ chain_number n (e ∷ entries)
      by (inl same) rest later =
          let here : nat_le n e.rrn ≡ true = grind (arith, nat_tests, same) in
          let equal : (e.rrn == n) ≡ true = grind (arith, nat_tests, same) in
          ap (with_number n) (cond-true (nat_le n e.rrn) (Some e) (find (λ e. nat_le n e.rrn) entries) here)
          ∙ cond-true (e.rrn == n) (Some e) None equal
          ∙ sym (cond-true (e.rrn == n) (Some e) (chain_number n entries) equal)
      by (inr (inl below)) rest later =
          let here : nat_le n e.rrn ≡ true = grind (arith, nat_tests, below) in
          let differ : (e.rrn == n) ≡ false = grind (arith, nat_tests, below) in
          ap (with_number n) (cond-true (nat_le n e.rrn) (Some e) (find (λ e. nat_le n e.rrn) entries) here)
          ∙ cond-false (e.rrn == n) (Some e) None differ
          ∙ sym (cond-false (e.rrn == n) (Some e) (chain_number n entries) differ ∙ none-above n e.rrn (omega (arith, below)) entries later)
      by (inr (inr past)) rest later =
          let here : nat_le n e.rrn ≡ false = grind (arith, nat_tests, past) in
          let differ : (e.rrn == n) ≡ false = grind (arith, nat_tests, past) in
          ap (with_number n) (cond-false (nat_le n e.rrn) (Some e) (find (λ e. nat_le n e.rrn) entries) here)
          ∙ rest
          ∙ sym (cond-false (e.rrn == n) (Some e) (chain_number n entries) differ)

  pub chain-same : (list : EntryList) → AreNumbered list → IsInOrder list.falling list.entries → (from : declared.Position)
      → ((entry : Entry) → entry ≡ numbered entry.rrn → entry.rrn ≤ MOST_SLOTS → pages.is_past false from entry ≡ nat_le n entry.rrn)
      → with_number n (pages.next_entry list.falling from list.entries) ≡ chain_number n list.entries
  chain-same list are sorted from past =
      let all = recursion_from_All (λ entry. entry ≡ numbered entry.rrn) list.entries are.entries in
      let few = recursion_from_All (λ entry. entry.rrn ≤ MOST_SLOTS) list.entries are.few in
      ap (λ (b : Bool). with_number n (pages.next_entry b from list.entries)) are.rising
      ∙ ap (with_number n) (find-within (pages.is_past false from) (λ e. nat_le n e.rrn) list.entries (each (λ e. pages.is_past false from e ≡ nat_le n e.rrn) past list.entries all few))
      ∙ chain-numbered list.entries all (subst (λ (b : Bool). IsInOrder b list.entries) are.rising sorted)
