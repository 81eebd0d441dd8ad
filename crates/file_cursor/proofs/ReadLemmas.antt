-- What a read finds in arrival order, by numbers alone.
use Rattle.std.proofs.Common.{◌≡◌, ℕ, ◌+◌, ◌<◌, nat_le, nat_lt, Bool, true, false, cond, Some, None, List, [], ◌∷◌, length, map, reverse, refl, ap, sym, ◌∙◌, arith}
use Rattle.std.specs.Prelude.{find}
use Rattle.std.specs.List.{AllByRecursion}
use Rattle.std.specs.Option.{option_or, option_map}
use Rattle.std.specs.declared.cmp.Ordering.TheVariants.{Less}
use Rattle.std.specs.Ordering.{is_lt, is_gt}
use Rattle.std.proofs.lemmas.Bool.Decides.{nat_tests}
use Rattle.std.proofs.lemmas.List.Folds.{find-append}
use Rattle.member_slots.specs.declared.slot.Slot.{Slot}
use Rattle.member_slots.specs.declared.slot.Slot.TheVariants.{Live, Deleted}
use Rattle.member_slots.specs.Member.{MemberState}
use Rattle.key_pages.specs.declared.entries.Entry.{Entry}
use Rattle.file_cursor.specs.declared.spot.Gap.{Gap}
use Rattle.file_cursor.specs.CursorPosition.{CursorPosition}
use Rattle.file_cursor.specs.Finding.{side_of, is_after, is_before, next_from, prior_from}
use Rattle.file_cursor.specs.Reading.{numbered, numbers, arrival_entries, IsGap}
use Rattle.file_cursor.proofs.ListLemmas.{reverse-cons, find-same, find-map, map-reverse}
use Rattle.file_cursor.proofs.ArrivalLemmas.{numbers_from}

find-never : (ns : List ℕ) → find (λ n. false) ns ≡ None
find-never [] = refl
find-never (n ∷ ns) = find-never ns

last-same : (p q : ℕ → Bool) (xs : List ℕ) → AllByRecursion (λ x. p x ≡ q x) xs → find p (reverse xs) ≡ find q (reverse xs)
last-same p q [] same = refl
last-same p q (x ∷ xs) same =
    ap (find p) (reverse-cons x xs)
    ∙ find-append p (reverse xs) (x ∷ [])
    ∙ ap (λ o. option_or o (find p (x ∷ []))) (last-same p q xs same.1)
    ∙ ap (λ (b : Bool). option_or (find q (reverse xs)) (cond b (Some x) None)) same.0
    ∙ sym (ap (find q) (reverse-cons x xs) ∙ find-append q (reverse xs) (x ∷ []))

module _ (until : ℕ) where
  all-below : (r : ℕ) (slots : List Slot) → r + length slots < until + 1 → AllByRecursion (λ n. true ≡ nat_lt n until) (numbers_from r slots)
  all-below r [] low = tt
  all-below r (Deleted ∷ slots) low = all-below (r + 1) slots (omega arith)
  all-below r (Live image ∷ slots) low = (
    (let h : r < until = omega arith in let e : true ≡ nat_lt r until = grind (arith, nat_tests) in e),
    all-below (r + 1) slots (omega arith),
  )

module _ (position : CursorPosition) (member : MemberState) where
  found : (p : Entry → Bool) (q : ℕ → Bool) → ((n : ℕ) → p (numbered n) ≡ q n) → (ns : List ℕ) → find p (map numbered ns) ≡ option_map numbered (find q ns)
  found p q same ns = find-map numbered p ns ∙ ap (option_map numbered) (find-same (λ n. p (numbered n)) q same ns)

  pub next-none : ((n : ℕ) → side_of false position (numbered n) ≡ Less) → next_from false (arrival_entries member) position ≡ None
  next-none less =
      found (is_after false position) (λ n. false) (λ n. ap is_gt (less n)) (numbers member)
      ∙ ap (option_map numbered) (find-never (numbers member))

  pub next-gap : (gap : Gap) → IsGap position gap → option_map numbered (find (λ n. nat_le gap.from n) (numbers member)) ≡ next_from false (arrival_entries member) position
  next-gap gap is = sym (found (is_after false position) (λ n. nat_le gap.from n) is.after (numbers member))

  before : (q : ℕ → Bool) → ((n : ℕ) → is_before false position (numbered n) ≡ q n) → prior_from false (arrival_entries member) position ≡ option_map numbered (find q (reverse (numbers member)))
  before q same =
      ap (find (is_before false position)) (map-reverse numbered (numbers member))
      ∙ found (is_before false position) q same (reverse (numbers member))

  pub prior-gap : (gap : Gap) → IsGap position gap
      → option_map numbered (find (λ n. nat_lt n gap.until) (reverse (numbers member))) ≡ prior_from false (arrival_entries member) position
  prior-gap gap is = sym (before (λ n. nat_lt n gap.until) is.before)

  pub prior-all : (until : ℕ) → ((n : ℕ) → side_of false position (numbered n) ≡ Less) → length member.slots < until
      → option_map numbered (find (λ n. nat_lt n until) (reverse (numbers member))) ≡ prior_from false (arrival_entries member) position
  prior-all until less low =
      sym (before (λ n. true) (λ n. ap is_lt (less n))
      ∙ ap (option_map numbered) (last-same (λ n. true) (λ n. nat_lt n until) (numbers member) (all-below until 1 member.slots (omega arith))))
