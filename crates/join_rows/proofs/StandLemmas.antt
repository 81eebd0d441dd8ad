-- A position can be on each row that is found.
use Rattle.std.proofs.Common.{◌≡◌, ℕ, ◌+◌, ◌≤◌, ◌<◌, Bool, true, false, cond, ◌==◌, Some, List, [], ◌∷◌, ◌++◌, length, map, refl, sym, ◌∙◌, ap, subst, arith, append_assoc, append-nil}
use Rattle.std.specs.Prelude.{filter, flat_map, reverse, unwrap_or}
use Rattle.std.specs.List.{AllByRecursion, list_all}
use Rattle.std.specs.Ordering.{is_lt, is_gt}
use Rattle.std.proofs.lemmas.List.Elements.{recursion_from_All, All-nil}
use Rattle.key_pages.specs.declared.entries.Entry.{Entry}
use Rattle.key_pages.specs.EntryList.{EntryList}
use Rattle.member_slots.specs.declared.slot.Slot.{Slot}
use Rattle.member_slots.specs.declared.slot.Slot.TheVariants.{Live, Deleted}
use Rattle.member_slots.specs.Member.{MemberState, IsMember, FitsSlot, empty_member, records, records_from, slot_at}
use Rattle.member_slots.specs.Members.{NumberedMembers, AreMembers, item_at, member_of}
use Rattle.file_model.specs.declared.joins.Secondary.{Secondary}
use Rattle.file_model.specs.declared.joins.JoinSpec.{JoinSpec}
use Rattle.file_model.specs.Joins.{Match, NoRecord, RecordAt, RowPlace, Matched, JoinRow, image_in, is_joined, matched, compare_matched, matches_of, or_missing, row_with, joined_rows, rows_of}
use Rattle.file_model.specs.Paths.{PathEntry, compare_entries, entry_of, entries_of, path}
use Rattle.file_model.specs.Paths as paths
use Rattle.file_model.specs.Selection.{selects}
use Rattle.file_model.specs.Sorting.{in_order}
use Rattle.file_model.specs.Positions as model
use Rattle.file_model.proofs.PathLemmas.{weaker, all-filter, all-map, all-append}
use Rattle.access_path.specs.KeyFields.{AreBytes}
use Rattle.access_path.specs.KeptEntries.{entry_with}
use Rattle.access_path.specs.PathBytes.{in_bytes}
use Rattle.access_path.proofs.OrderedLemmas.{all-in_order}
use Rattle.file_cursor.specs.PositionBytes.{IsEntryOf}
use Rattle.file_cursor.proofs.EntryLemmas.{path-entries}
use Rattle.join_rows.specs.declared.positions.MatchPlace.{MatchPlace}
use Rattle.join_rows.specs.declared.positions.MatchPlace.TheVariants.{Missing, Record}
use Rattle.join_rows.specs.NextRow.{rows_reading, row_of_entry}
use Rattle.join_rows.specs.Places.{AreJoinable}
use Rattle.join_rows.specs.Reading.{AreReadable, ArePlacesOf}
use Rattle.join_rows.specs.Rows.{CanBeRead, IsPlace, found_row}
use Rattle.join_rows.specs.Standing.{IsMatchAt, AreMatchesOf, CanBeStoodOn, AreKept}
use Rattle.join_rows.proofs.SoughtLemmas.{all-records}
use Rattle.join_rows.proofs.JoinedLemmas.{both-all}
use Rattle.join_rows.proofs.WalkLemmas.{all-reverse}
use Rattle.join_rows.proofs.BackLemmas.{find-good}

-- ---- the records of a member

few-records : (r : ℕ) (slots : List Slot) → r + length slots < 4294967295 → AllByRecursion (λ pair. pair.0 < 4294967295) (records_from r slots)
few-records r [] low = tt
few-records r (Deleted ∷ slots) low = few-records (r + 1) slots (omega arith)
few-records r (Live image ∷ slots) low = (omega arith, few-records (r + 1) slots (omega arith))

item-is : (n : ℕ) (entries : NumberedMembers) → AllByRecursion (λ entry. IsMember entry.item) entries → IsMember (unwrap_or (item_at n entries) (empty_member 0))
item-is n [] all = record { records = All-nil (FitsSlot 0); slots = omega arith; bytes = omega arith }
item-is n (entry ∷ entries) all = by (entry.number == n) (item-is n entries all.1)
  where
    by : (b : Bool) → IsMember (unwrap_or (item_at n entries) (empty_member 0)) → IsMember (unwrap_or (cond b (Some entry.item) (item_at n entries)) (empty_member 0))
    by true rest = all.0
    by false rest = rest

member-is : (n : ℕ) (members : NumberedMembers) → AreMembers members → IsMember (member_of n members)
member-is n members are = item-is n members (recursion_from_All (λ entry. IsMember entry.item) members are.each)

abbrev IsNumber : ℕ → Type 0
IsNumber n = (1 ≤ n) × (n < 4294967295)

numbers-of : (member : MemberState) → IsMember member → AllByRecursion (λ pair. IsNumber pair.0) (records member)
numbers-of member is =
    let few = is.slots in
    both-all (λ pair. (1 ≤ pair.0) × (slot_at member pair.0 ≡ Some (Live pair.1))) (λ pair. pair.0 < 4294967295) (λ pair. IsNumber pair.0) (λ pair one two. (one.0, two)) (records member)
    (all-records member) (few-records 1 member.slots (omega (arith, few)))

-- ---- the records of a secondary file

module _ (members : NumberedMembers) (are : AreMembers members) where
  abbrev IsGood : Secondary → Matched → Type 0
  IsGood file m = IsMatchAt file m.match

  good-records : (file : Secondary) → AreJoinable file members → AllByRecursion (λ pair. IsGood file (matched file pair)) (records (member_of file.member members))
  good-records file joinable =
      both-all (λ pair. AreBytes pair.1) (λ pair. IsNumber pair.0) (λ pair. IsGood file (matched file pair))
      (λ pair bytes number. (number.1, (record { image = pair.1; bytes = bytes; value = refl }, number.0)))
      (records (member_of file.member members))
      (recursion_from_All (λ pair. AreBytes pair.1) (records (member_of file.member members)) joinable.bytes)
      (numbers-of (member_of file.member members) (member-is file.member members are))

  good-matches : (file : Secondary) → AreJoinable file members → (row : JoinRow) → AllByRecursion (IsGood file) (matches_of file members row)
  good-matches file joinable row =
      let joins : ℕ × List ℕ → Bool = λ pair. list_all (is_joined (image_in file.from row.images) pair.1) file.pairs in
      all-in_order compare_matched (IsGood file) (map (matched file) (filter joins (records (member_of file.member members))))
      (all-map (IsGood file) (matched file) (filter joins (records (member_of file.member members)))
      (all-filter (λ pair. IsGood file (matched file pair)) joins (records (member_of file.member members)) (good-records file joinable)))

  good-level : (keeps_missing : Bool) (file : Secondary) (found : List Matched) → AllByRecursion (IsGood file) found → AllByRecursion (IsGood file) (or_missing keeps_missing file found)
  good-level keeps_missing file (m ∷ found) all = all
  good-level true file [] all = (tt, tt)
  good-level false file [] all = tt

  -- ---- the rows

  record IsAbove (files : List Secondary) (row leaf : JoinRow) : Type 0 where
    same : leaf.place.primary ≡ row.place.primary
    further : List Match
    is : leaf.place.matches ≡ row.place.matches ++ further
    good : AreMatchesOf files further

  all-flat : {A B : Type 0} (P : A → Type 0) (Q : B → Type 0) (f : A → List B) → ((x : A) → P x → AllByRecursion Q (f x)) → (xs : List A) → AllByRecursion P xs → AllByRecursion Q (flat_map f xs)
  all-flat P Q f each [] all = tt
  all-flat P Q f each (x ∷ xs) all = all-append Q (f x) (flat_map f xs) (each x all.0) (all-flat P Q f each xs all.1)

  above : (keeps_missing : Bool) (files : List Secondary) → AllByRecursion (λ file. AreJoinable file members) files → (row : JoinRow)
      → AllByRecursion (IsAbove files row) (joined_rows keeps_missing files members row)
  above keeps_missing [] joinable row = (record { same = refl; further = []; is = sym (append-nil row.place.matches); good = tt }, tt)
  above keeps_missing (file ∷ files) joinable row =
      all-flat (IsGood file) (IsAbove (file ∷ files) row) (λ m. joined_rows keeps_missing files members (row_with row m))
      (λ m good-match. weaker (IsAbove files (row_with row m)) (IsAbove (file ∷ files) row)
      (λ leaf is. record {
        same = is.same;
        further = m.match ∷ is.further;
        is = is.is ∙ append_assoc row.place.matches (m.match ∷ []) is.further;
        good = (good-match, is.good);
      })
      (joined_rows keeps_missing files members (row_with row m)) (above keeps_missing files joinable.1 (row_with row m)))
      (or_missing keeps_missing file (matches_of file members row))
      (good-level keeps_missing file (matches_of file members row) (good-matches file joinable.0 row))

  all-joinable : (number : ℕ) (files : List Secondary) (lists : List EntryList) → AreReadable members number files lists → AllByRecursion (λ file. AreJoinable file members) files
  all-joinable number [] lists readable = tt
  all-joinable number (file ∷ files) [] readable = absurd readable
  all-joinable number (file ∷ files) (list ∷ lists) readable = (readable.0.joinable, all-joinable (number + 1) files lists readable.1)

  module _ (spec : JoinSpec) (primary : EntryList) (secondaries : List EntryList) (can : CanBeRead spec members primary secondaries) where
    numbers-path : AllByRecursion (λ p. IsNumber p.rrn) (path spec.primary members)
    numbers-path =
        subst (λ fs. AllByRecursion (λ p. IsNumber p.rrn) (in_order (compare_entries spec.primary.ties) (paths.entries_from 0 fs members))) (sym can.one)
        (all-in_order (compare_entries spec.primary.ties) (λ p. IsNumber p.rrn) (entries_of 0 can.format members ++ [])
        (all-append (λ p. IsNumber p.rrn) (entries_of 0 can.format members) []
        (all-map (λ p. IsNumber p.rrn) (entry_of 0 can.format) (filter (λ pair. selects can.format.rules pair.1) (records (member_of can.format.member members)))
        (all-filter (λ pair. IsNumber pair.0) (λ pair. selects can.format.rules pair.1) (records (member_of can.format.member members))
        (numbers-of (member_of can.format.member members) (member-is can.format.member members are))))
        tt))

    all-rows : AllByRecursion (λ row. CanBeStoodOn spec row.place) (rows_of spec members)
    all-rows =
        all-flat (λ p. IsEntryOf spec.primary.formats p × IsNumber p.rrn) (λ row. CanBeStoodOn spec row.place)
        (λ p. joined_rows spec.keeps_missing spec.secondaries members (row_of_entry spec members p))
        (λ p good. weaker (IsAbove spec.secondaries (row_of_entry spec members p)) (λ row. CanBeStoodOn spec row.place)
        (λ row is. record {
          is_entry = subst (IsEntryOf spec.primary.formats) (sym is.same) good.0;
          some = subst (λ (e : PathEntry). 1 ≤ e.rrn) (sym is.same) good.1.0;
          most = subst (λ (e : PathEntry). e.rrn < 4294967295) (sym is.same) good.1.1;
          matches = subst (AreMatchesOf spec.secondaries) (sym is.is) is.good;
        })
        (joined_rows spec.keeps_missing spec.secondaries members (row_of_entry spec members p))
        (above spec.keeps_missing spec.secondaries (all-joinable 1 spec.secondaries secondaries can.files) (row_of_entry spec members p)))
        (path spec.primary members)
        (both-all (IsEntryOf spec.primary.formats) (λ p. IsNumber p.rrn) (λ p. IsEntryOf spec.primary.formats p × IsNumber p.rrn) (λ p one two. (one, two)) (path spec.primary members)
        (path-entries spec.primary members can.keys) numbers-path)

    pub stood-on : (back : Bool) (position : model.Position RowPlace) (row : JoinRow) → found_row back spec members position ≡ Some row → CanBeStoodOn spec row.place
    stood-on false position row found =
        (find-good (λ r. CanBeStoodOn spec r.place) (λ r. is_gt (model.side_of (rows_reading spec members) position r.place)) (rows_of spec members) row all-rows found).0
    stood-on true position row found =
        (find-good (λ r. CanBeStoodOn spec r.place) (λ r. is_lt (model.side_of (rows_reading spec members) position r.place)) (reverse (rows_of spec members)) row
        (all-reverse (λ r. CanBeStoodOn spec r.place) (rows_of spec members) all-rows) found).0

-- ---- what a position keeps

kept-places : (files : List Secondary) (places : List MatchPlace) (matches : List Match) → AreMatchesOf files matches → AreKept files places matches → ArePlacesOf files places matches
kept-places [] [] [] are kept = tt
kept-places [] [] (m ∷ matches) are kept = absurd kept
kept-places [] (p ∷ places) matches are kept = absurd kept
kept-places (file ∷ files) [] matches are kept = absurd kept
kept-places (file ∷ files) (p ∷ places) [] are kept = absurd kept
kept-places (file ∷ files) (Missing ∷ places) (NoRecord ∷ matches) are kept = (tt, kept-places files places matches are.1 kept.1)
kept-places (file ∷ files) (Missing ∷ places) (RecordAt v rrn ∷ matches) are kept = absurd kept.0
kept-places (file ∷ files) (Record sequence number ∷ places) (NoRecord ∷ matches) are kept = absurd kept.0
kept-places (file ∷ files) (Record sequence number ∷ places) (RecordAt v rrn ∷ matches) are kept =
    ((kept.0.0, kept.0.1, are.0.0, are.0.1), kept-places files places matches are.1 kept.1)

pub kept-place : (spec : JoinSpec) (key : List ℕ) (rrn : ℕ) (places : List MatchPlace) (place : RowPlace) → CanBeStoodOn spec place → in_bytes spec.primary.formats place.primary ≡ entry_with 0 rrn key
    → AreKept spec.secondaries places place.matches → IsPlace spec key rrn places place
kept-place spec key rrn places place stood primary kept =
    let number : place.primary.rrn ≡ rrn = ap (λ (e : Entry). e.rrn) primary in record {
      primary = primary;
      is_entry = stood.is_entry;
      some = subst (λ n. 1 ≤ n) number stood.some;
      most = subst (λ n. n < 4294967295) number stood.most;
      secondaries = kept-places spec.secondaries places place.matches stood.matches kept;
    }
