-- A path after a change of one record.
use Rattle.std.specs.Prelude.{◌≡◌, ◌≢◌, ◌<◌, ℕ, ◌+◌, List, [], ◌∷◌, ◌++◌, length, Bool, true, false, filter, map, All, if◌then◌else◌}
use mathlib.Core.Path.{refl, sym, ◌∙◌, ap}
use Rattle.std.proofs.Common.{arith}
use Rattle.std.proofs.lemmas.Bool.{cond-true, cond-false}
use Rattle.std.proofs.lemmas.List.{append_assoc, map-append}
use Rattle.std.proofs.lemmas.List.Elements.{filter-append, All-from_recursion, recursion_from_All}
use Rattle.std.specs.List.{AllByRecursion}
use Rattle.std.specs.declared.cmp.Ordering.TheVariants.{Equal}
use Rattle.key_spec.specs.declared.Ties.{Ties}
use Rattle.member_slots.specs.declared.slot.Slot.{Slot}
use Rattle.member_slots.specs.declared.slot.Slot.TheVariants.{Live, Deleted}
use Rattle.member_slots.specs.Member.{records_from}
use Rattle.file_model.specs.declared.paths.PathFormat.{PathFormat}
use Rattle.file_model.specs.Paths.{PathEntry, compare_entries, entry_of, entries_in}
use Rattle.file_model.specs.Selection.{selects}
use Rattle.file_model.specs.Sorting.{put_in_order, in_order}
use Rattle.file_model.proofs.OrderLemmas.{compare_entries-total}
use Rattle.file_model.proofs.PathLemmas.{weaker, all-filter, all-map, all-append, apart-differ}
use Rattle.file_model.proofs.SortLemmas.{in_order-middle}

records-append : (rrn : ℕ) (front back : List Slot) → records_from rrn (front ++ back) ≡ records_from rrn front ++ records_from (rrn + length front) back
records-append rrn [] back = let e : rrn ≡ rrn + 0 = omega arith in ap (λ n. records_from n back) e
records-append rrn (Live image ∷ front) back =
    let e : rrn + 1 + length front ≡ rrn + length (Live image ∷ front) = omega arith in
    ap (λ t. (rrn, image) ∷ t) (records-append (rrn + 1) front back ∙ ap (λ n. records_from (rrn + 1) front ++ records_from n back) e)
records-append rrn (Deleted ∷ front) back =
    let e : rrn + 1 + length front ≡ rrn + length (Deleted ∷ front) = omega arith in
    records-append (rrn + 1) front back ∙ ap (λ n. records_from (rrn + 1) front ++ records_from n back) e

records-high : (rrn : ℕ) (slots : List Slot) → AllByRecursion (λ p. p.0 < rrn + length slots) (records_from rrn slots)
records-high rrn [] = tt
records-high rrn (Live image ∷ slots) =
    (omega arith, weaker (λ p. p.0 < rrn + 1 + length slots) (λ p. p.0 < rrn + length (Live image ∷ slots)) (λ p h. omega (arith, h)) (records_from (rrn + 1) slots) (records-high (rrn + 1) slots))
records-high rrn (Deleted ∷ slots) =
    weaker (λ p. p.0 < rrn + 1 + length slots) (λ p. p.0 < rrn + length (Deleted ∷ slots)) (λ p h. omega (arith, h)) (records_from (rrn + 1) slots) (records-high (rrn + 1) slots)

regrouped : (before front more after : List PathEntry) → (before ++ (front ++ more)) ++ after ≡ (before ++ front) ++ (more ++ after)
regrouped before front more after = ap (λ t. t ++ after) (sym (append_assoc before front more)) ∙ append_assoc (before ++ front) more after

module _ (number : ℕ) (format : PathFormat) where
  -- the entries of slots that begin with this record number
  from : ℕ → List Slot → List PathEntry
  from rrn slots = map (entry_of number format) (filter (λ pair. selects format.rules pair.1) (records_from rrn slots))

  from-append : (rrn : ℕ) (front back : List Slot) → from rrn (front ++ back) ≡ from rrn front ++ from (rrn + length front) back
  unfolding from
  from-append rrn front back =
      let first = records_from rrn front in
      let rest = records_from (rrn + length front) back in
      ap (λ r. map (entry_of number format) (filter (λ pair. selects format.rules pair.1) r)) (records-append rrn front back)
      ∙ ap (map (entry_of number format)) (filter-append (λ pair. selects format.rules pair.1) first rest)
      ∙ map-append (entry_of number format) (filter (λ pair. selects format.rules pair.1) first) (filter (λ pair. selects format.rules pair.1) rest)

  from-selected : (rrn : ℕ) (image : List ℕ) (back : List Slot) → selects format.rules image ≡ true → from rrn (Live image ∷ back) ≡ entry_of number format (rrn, image) ∷ from (rrn + 1) back
  unfolding from
  from-selected rrn image back h =
      let rest = filter (λ pair. selects format.rules pair.1) (records_from (rrn + 1) back) in
      ap (map (entry_of number format)) (cond-true (selects format.rules image) ((rrn, image) ∷ rest) rest h)

  from-omitted : (rrn : ℕ) (image : List ℕ) (back : List Slot) → selects format.rules image ≡ false → from rrn (Live image ∷ back) ≡ from (rrn + 1) back
  unfolding from
  from-omitted rrn image back h =
      let rest = filter (λ pair. selects format.rules pair.1) (records_from (rrn + 1) back) in
      ap (map (entry_of number format)) (cond-false (selects format.rules image) ((rrn, image) ∷ rest) rest h)

  -- no entry before the changed one has its place
  differs : (ties : Ties) (before : List PathEntry) (front : List Slot) (image : List ℕ) → All (λ e. e.format < number) before
      → All (λ x. compare_entries ties x (entry_of number format (1 + length front, image)) ≢ Equal) (before ++ from 1 front)
  unfolding from
  differs ties before front image lower =
      let entry = entry_of number format (1 + length front, image) in
      let P : PathEntry → Type 0 = λ x. compare_entries ties x entry ≢ Equal in
      All-from_recursion P (before ++ from 1 front)
      (all-append P before (from 1 front)
      (weaker (λ e. e.format < number) P (λ e h. apart-differ ties e entry (λ same _. omega (arith, h, same))) before (recursion_from_All (λ e. e.format < number) before lower))
      (all-map P (entry_of number format) (filter (λ pair. selects format.rules pair.1) (records_from 1 front))
      (weaker (λ p. p.0 < 1 + length front) (λ p. P (entry_of number format p)) (λ p h. apart-differ ties (entry_of number format p) entry (λ _ same. omega (arith, h, same)))
      (filter (λ pair. selects format.rules pair.1) (records_from 1 front))
      (all-filter (λ p. p.0 < 1 + length front) (λ pair. selects format.rules pair.1) (records_from 1 front) (records-high 1 front)))))

  pub path-changed : (ties : Ties) (before after : List PathEntry) (front back : List Slot) (image : List ℕ) → All (λ e. e.format < number) before
      → in_order (compare_entries ties) (before ++ entries_in number format (front ++ Live image ∷ back) ++ after)
      ≡ (if selects format.rules image
      then put_in_order (compare_entries ties) (entry_of number format (1 + length front, image)) (in_order (compare_entries ties) (before ++ entries_in number format (front ++ Deleted ∷ back) ++ after))
      else in_order (compare_entries ties) (before ++ entries_in number format (front ++ Deleted ∷ back) ++ after))
  unfolding from
  path-changed ties before after front back image lower = by (selects format.rules image) refl
    where
      entry : PathEntry
      entry = entry_of number format (1 + length front, image)

      without : List PathEntry
      without = in_order (compare_entries ties) (before ++ entries_in number format (front ++ Deleted ∷ back) ++ after)

      taken : without ≡ in_order (compare_entries ties) ((before ++ from 1 front) ++ (from (1 + length front + 1) back ++ after))
      taken = ap (in_order (compare_entries ties)) (ap (λ t. (before ++ t) ++ after) (from-append 1 front (Deleted ∷ back)) ∙ regrouped before (from 1 front) (from (1 + length front + 1) back) after)

      by : (b : Bool) → selects format.rules image ≡ b
          → in_order (compare_entries ties) (before ++ entries_in number format (front ++ Live image ∷ back) ++ after)
          ≡ (if selects format.rules image then put_in_order (compare_entries ties) entry without else without)
      by true h =
          ap (in_order (compare_entries ties))
          (ap (λ t. (before ++ t) ++ after) (from-append 1 front (Live image ∷ back) ∙ ap (λ t. from 1 front ++ t) (from-selected (1 + length front) image back h))
          ∙ regrouped before (from 1 front) (entry ∷ from (1 + length front + 1) back) after)
          ∙ in_order-middle (compare_entries ties) (compare_entries-total ties) (before ++ from 1 front) entry (from (1 + length front + 1) back ++ after) (differs ties before front image lower)
          ∙ ap (put_in_order (compare_entries ties) entry) (sym taken)
          ∙ sym (cond-true (selects format.rules image) (put_in_order (compare_entries ties) entry without) without h)
      by false h =
          ap (in_order (compare_entries ties))
          (ap (λ t. (before ++ t) ++ after) (from-append 1 front (Live image ∷ back) ∙ ap (λ t. from 1 front ++ t) (from-omitted (1 + length front) image back h))
          ∙ regrouped before (from 1 front) (from (1 + length front + 1) back) after)
          ∙ sym taken
          ∙ sym (cond-false (selects format.rules image) (put_in_order (compare_entries ties) entry without) without h)
