-- The first row of a key is the first that isn't less, where it has the key.
use Rattle.std.proofs.Common.{◌≡◌, ℕ, Bool, true, false, Some, None, List, [], ◌∷◌, ◌++◌, map, Bor, refl, sym, ◌∙◌, ap, subst}
use Rattle.std.specs.Prelude.{flat_map, All}
use Rattle.std.specs.List.{AllByRecursion, find}
use Rattle.std.specs.List.Sorted.{IsStrictlySortedBy}
use Rattle.std.specs.declared.cmp.Ordering.{Ordering}
use Rattle.std.specs.declared.cmp.Ordering.TheVariants.{Less, Equal, Greater}
use Rattle.std.specs.Ordering.{ordering_then, is_lt, is_eq, is_gt}
use Rattle.std.proofs.lemmas.Bool.{cond-true, cond-false}
use Rattle.key_pages.specs.declared.entries.Entry.{Entry}
use Rattle.key_pages.specs.EntryList.{EntryList}
use Rattle.key_pages.specs.declared.positions.Position.TheVariants as pages
use Rattle.key_pages.specs.Order.{entry_cmp, IsInOrder}
use Rattle.key_pages.proofs.SideLemmas.{passed_before}
use Rattle.member_slots.specs.Members.{NumberedMembers}
use Rattle.file_model.specs.declared.paths.PathFormat.{PathFormat}
use Rattle.file_model.specs.declared.joins.JoinSpec.{JoinSpec}
use Rattle.file_model.specs.KeyOrder as keys
use Rattle.file_model.specs.KeyOrder.{KeyValue, compare_with}
use Rattle.file_model.specs.Joins.{JoinRow, joined_rows, rows_of}
use Rattle.file_model.specs.Paths.{PathEntry, path}
use Rattle.file_model.specs.Positions as model
use Rattle.access_path.specs.KeyBytes.{key_bytes}
use Rattle.access_path.specs.KeyFields.{Matches}
use Rattle.access_path.proofs.KeyLemmas.{Matches-itself}
use Rattle.std.proofs.lemmas.List.Elements.{All-from_recursion}
use Rattle.access_path.specs.PathBytes.{is_falling, in_bytes}
use Rattle.join_rows.specs.CursorPosition.{Past, ByKey}
use Rattle.join_rows.specs.Finding.{compare_part, side_of, begins_with}
use Rattle.join_rows.specs.PositionBytes.{IsEntryOf, AreGiven}
use Rattle.join_rows.proofs.SideLemmas.{side-past}
use Rattle.join_rows.proofs.FileCursorEntryLemmas.{path-entries, begins-same, side-same}
use Rattle.join_rows.specs.NextRow.{rows_reading, next_row, row_of_entry}
use Rattle.join_rows.specs.Rows.{CanBeRead, parts_in}
use Rattle.join_position.specs.RowReads.{where_row, first_row}
use Rattle.join_position.proofs.RowLemmas.{same-entry}

-- behind what comes past the bytes no key begins with them
later : (falling : Bool) (key : Bor (List ℕ)) (a b : Entry) → entry_cmp falling a b ≡ Less → is_lt (side_of falling (Past (ByKey key.now)) a) ≡ false → begins_with key.now b ≡ false
later falling key a b less above = by (compare_part key.now b.key) refl
  where
    below : (o : Ordering) → compare_part key.now b.key ≡ o → is_lt (ordering_then o Less) ≡ true → ⊥
    below o is passed =
        let low : is_lt (ordering_then (compare_part key.now a.key) Less) ≡ true =
        ap is_lt (sym (side-past key.now a.key))
        ∙ passed_before false falling (pages.Past key) a b less (ap is_lt (side-past key.now b.key ∙ ap (λ w. ordering_then w Less) is) ∙ passed) in
        let none : false ≡ true = sym above ∙ low in
        cc

    by : (o : Ordering) → compare_part key.now b.key ≡ o → begins_with key.now b ≡ false
    by Less is = absurd (below Less is refl)
    by Equal is = absurd (below Equal is refl)
    by Greater is = ap is_eq is

-- ---- among the rows of a join file

module _ (spec : JoinSpec) (members : NumberedMembers) (values : List KeyValue) where
  abbrev begins : JoinRow → Bool
  begins row = keys.begins_with values row.place.primary.key

  abbrev beyond : JoinRow → Bool
  beyond row = is_gt (model.side_of (rows_reading spec members) (model.Before (model.KeyBound values)) row.place)

  abbrev rows_below : PathEntry → List JoinRow
  rows_below e = joined_rows spec.keeps_missing spec.secondaries members (row_of_entry spec members e)

  abbrev AllOf : PathEntry → List JoinRow → Type 0
  AllOf e rows = AllByRecursion (λ row. row.place.primary ≡ e) rows

  -- rows that don't begin with the values are passed by
  skipped : (e : PathEntry) → keys.begins_with values e.key ≡ false → (rows : List JoinRow) → AllOf e rows → (rest : List JoinRow) → find begins (rows ++ rest) ≡ find begins rest
  skipped e none [] all rest = refl
  skipped e none (row ∷ rows) all rest =
      cond-false (begins row) (Some row) (find begins (rows ++ rest)) (ap (λ (p : PathEntry). keys.begins_with values p.key) all.0 ∙ none)
      ∙ skipped e none rows all.1 rest

  abbrev AreBehind : List PathEntry → Type 0
  AreBehind es = AllByRecursion (λ e. keys.begins_with values e.key ≡ false) es

  none-behind : (es : List PathEntry) → AreBehind es → find begins (flat_map rows_below es) ≡ None
  none-behind [] all = refl
  none-behind (e ∷ es) all =
      skipped e all.0 (rows_below e) (same-entry spec.keeps_missing spec.secondaries members (row_of_entry spec members e)) (flat_map rows_below es)
      ∙ none-behind es all.1

  abbrev IsStep : List JoinRow → Type 0
  IsStep rows = where_row values (find beyond rows) ≡ find begins rows

  -- those of one entry, before others
  step : (e : PathEntry) (o : Ordering) → compare_with values e.key ≡ o → (rows : List JoinRow) → AllOf e rows → (rest : List JoinRow) → IsStep rest
      → (o ≡ Greater → find begins rest ≡ None) → IsStep (rows ++ rest)
  step e o is [] all rest on none = on
  step e Less is (row ∷ rows) all rest on none =
      let here : compare_with values row.place.primary.key ≡ Less = ap (λ (p : PathEntry). compare_with values p.key) all.0 ∙ is in
      ap (where_row values) (cond-false (beyond row) (Some row) (find beyond (rows ++ rest)) (ap (λ w. is_gt (ordering_then w Greater)) here))
      ∙ step e Less is rows all.1 rest on none
      ∙ sym (cond-false (begins row) (Some row) (find begins (rows ++ rest)) (ap is_eq here))
  step e Equal is (row ∷ rows) all rest on none =
      let here : compare_with values row.place.primary.key ≡ Equal = ap (λ (p : PathEntry). compare_with values p.key) all.0 ∙ is in
      ap (where_row values) (cond-true (beyond row) (Some row) (find beyond (rows ++ rest)) (ap (λ w. is_gt (ordering_then w Greater)) here))
      ∙ cond-true (begins row) (Some row) None (ap is_eq here)
      ∙ sym (cond-true (begins row) (Some row) (find begins (rows ++ rest)) (ap is_eq here))
  step e Greater is (row ∷ rows) all rest on none =
      let here : compare_with values row.place.primary.key ≡ Greater = ap (λ (p : PathEntry). compare_with values p.key) all.0 ∙ is in
      ap (where_row values) (cond-true (beyond row) (Some row) (find beyond (rows ++ rest)) (ap (λ w. is_gt (ordering_then w Greater)) here))
      ∙ cond-false (begins row) (Some row) None (ap is_eq here)
      ∙ sym (skipped e (ap is_eq is) (row ∷ rows) all rest ∙ none refl)

  abbrev IsRising : List PathEntry → Type 0
  IsRising [] = Unit {0}
  IsRising (e ∷ es) = (compare_with values e.key ≡ Greater → AreBehind es) × IsRising es

  steps : (es : List PathEntry) → IsRising es → IsStep (flat_map rows_below es)
  steps [] rising = refl
  steps (e ∷ es) rising =
      step e (compare_with values e.key) refl (rows_below e) (same-entry spec.keeps_missing spec.secondaries members (row_of_entry spec members e)) (flat_map rows_below es)
      (steps es rising.1) (λ greater. none-behind es (rising.0 greater))

  -- ---- the entries stand in the order of their bytes

  module _ (primary : EntryList) (secondaries : List EntryList) (can : CanBeRead spec members primary secondaries) (key : Bor (List ℕ))
      (bytes : key.now ≡ key_bytes (parts_in spec.primary.formats) values) (given : AreGiven (parts_in spec.primary.formats) values) where
    abbrev formats : List PathFormat
    formats = spec.primary.formats

    abbrev falling : Bool
    falling = is_falling spec.primary.ties

    keys-match : All (λ key. Matches key (parts_in formats)) (map (λ format. format.key) formats)
    keys-match =
        subst (λ (fs : List PathFormat). All (λ key. Matches key (parts_in fs)) (map (λ format. format.key) fs)) (sym can.one)
        (All-from_recursion (λ key. Matches key can.format.key) (can.format.key ∷ []) (Matches-itself can.format.key, tt))

    above : (e : PathEntry) → IsEntryOf formats e → compare_with values e.key ≡ Greater → is_lt (side_of falling (Past (ByKey key.now)) (in_bytes formats e)) ≡ false
    above e is greater =
        ap (λ (k : List ℕ). is_lt (side_of falling (Past (ByKey k)) (in_bytes formats e))) bytes
        ∙ ap is_lt (side-same formats (parts_in formats) keys-match spec.primary.ties (path spec.primary members) can.keys.match (model.Past (model.KeyBound values)) given e is)
        ∙ ap (λ w. is_lt (ordering_then w Less)) greater

    begins-too : (e : PathEntry) → IsEntryOf formats e → keys.begins_with values e.key ≡ begins_with key.now (in_bytes formats e)
    begins-too e is =
        sym (ap (λ (k : List ℕ). begins_with k (in_bytes formats e)) bytes ∙ begins-same formats (parts_in formats) keys-match values given e is)

    behind : (e : PathEntry) → is_lt (side_of falling (Past (ByKey key.now)) (in_bytes formats e)) ≡ false → (es : List PathEntry)
        → AllByRecursion (λ b. entry_cmp falling (in_bytes formats e) b ≡ Less) (map (in_bytes formats) es) → AllByRecursion (IsEntryOf formats) es → AreBehind es
    behind e past [] less are = tt
    behind e past (f ∷ es) less are =
        (begins-too f are.0 ∙ later falling key (in_bytes formats e) (in_bytes formats f) less.0 past, behind e past es less.1 are.1)

    rising : (es : List PathEntry) → IsInOrder falling (map (in_bytes formats) es) → AllByRecursion (IsEntryOf formats) es → IsRising es
    unfolding IsStrictlySortedBy
    rising [] sorted are = tt
    rising (e ∷ es) sorted are = ((λ greater. behind e (above e are.0 greater) es sorted.0 are.1), rising es sorted.1 are.1)

    pub chained : IsInOrder primary.falling primary.entries
        → where_row values (next_row spec members (model.Before (model.KeyBound values))) ≡ first_row values (rows_of spec members)
    chained sorted =
        steps (path spec.primary members)
        (rising (path spec.primary members)
        (subst (λ (f : Bool). IsInOrder f (map (in_bytes formats) (path spec.primary members))) can.path.falling
        (subst (IsInOrder primary.falling) can.path.entries sorted))
        (path-entries spec.primary members can.keys))
