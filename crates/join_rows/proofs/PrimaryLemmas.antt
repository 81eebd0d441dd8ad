-- A row is found by trying the entries of the primary's path, one after another.
use Rattle.std.proofs.Common.{◌≡◌, ℕ, zero, suc, ◌+◌, ◌-◌, ◌≤◌, ◌<◌, Bool, true, false, not, cond, ◌==◌, Option, Some, None, List, [], ◌∷◌, ◌++◌, length, map, refl, sym, ◌∙◌, ap, subst, arith}
use Rattle.std.specs.Prelude.{filter, reverse, All}
use Rattle.std.specs.Option.{option_map, option_or}
use Rattle.std.specs.List.{AllByRecursion, slice_get}
use Rattle.std.specs.declared.cmp.Ordering.{Ordering}
use Rattle.std.specs.declared.cmp.Ordering.TheVariants.{Less, Equal, Greater}
use Rattle.std.specs.Ordering.{MatchOrdering, nat_cmp, ordering_then, is_eq, is_lt, is_gt}
use Rattle.std.proofs.lemmas.Cmp.{ranked}
use Rattle.std.proofs.lemmas.Bool.{cond-false, ne_eqb}
use Rattle.std.proofs.lemmas.List.Elements.{recursion_from_All, All-from_recursion}
use Rattle.key_spec.specs.declared.Ties.{Ties}
use Rattle.key_pages.specs.declared.entries.Entry.{Entry}
use Rattle.key_pages.specs.EntryList.{EntryList}
use Rattle.key_pages.specs.Order.{key_cmp, entry_cmp, IsInOrder}
use Rattle.member_slots.specs.declared.slot.Slot.{Slot}
use Rattle.member_slots.specs.declared.slot.Slot.TheVariants.{Live, Deleted}
use Rattle.member_slots.specs.Member.{MemberState, records, records_from, slot_at}
use Rattle.member_slots.specs.Members.{NumberedMembers, member_of}
use Rattle.file_model.specs.declared.paths.PathFormat.{PathFormat}
use Rattle.file_model.specs.declared.joins.Secondary.{Secondary}
use Rattle.file_model.specs.declared.joins.JoinSpec.{JoinSpec}
use Rattle.file_model.specs.Joins.{Match, RowPlace, JoinRow, image_of_entry, primary_records}
use Rattle.file_model.specs.Paths.{PathEntry, compare_entries, entry_of, entries_of, path}
use Rattle.file_model.specs.Paths as paths
use Rattle.file_model.specs.Selection.{selects}
use Rattle.file_model.specs.Sorting.{in_order}
use Rattle.file_model.specs.Positions as model
use Rattle.file_model.proofs.PathLemmas.{weaker, all-filter, all-map, all-append}
use Rattle.access_path.specs.KeyFields.{Matches}
use Rattle.access_path.proofs.KeyLemmas.{Matches-itself}
use Rattle.access_path.specs.PathBytes.{is_falling, in_bytes}
use Rattle.access_path.proofs.OrderedLemmas.{all-in_order}
use Rattle.file_cursor.specs.CursorPosition.{CursorPosition, On, Before, Past, ByKey}
use Rattle.file_cursor.specs.Finding.{side_of, is_after, is_before}
use Rattle.file_cursor.specs.PositionBytes.{IsEntryOf, position_in_bytes, IsPositionOf}
use Rattle.file_cursor.specs.Reading.{IsByKey}
use Rattle.file_cursor.proofs.EntryLemmas.{path-entries, side-same}
use Rattle.join_rows.specs.Levels.{first_of}
use Rattle.join_rows.specs.NextRow.{row_of_entry, below_entry, entry_isnt_before, entry_isnt_after}
use Rattle.join_rows.specs.Numbers.{image_of, image_at, row_by}
use Rattle.join_rows.specs.declared.positions.MatchPlace.{MatchPlace}
use Rattle.join_rows.specs.declared.positions.RowPosition.{RowPosition}
use Rattle.join_rows.specs.declared.positions.RowPosition.TheVariants as rows
use Rattle.join_rows.specs.declared.rows.Row.{Row}
use Rattle.join_rows.specs.Reading.{Feeds, AreFed, ArePlacesOf, IsLeft, found_below}
use Rattle.join_rows.specs.Rows.{CanBeRead, parts_in, IsAt, IsFound, found_row, first_member, next_place, prior_place, place_by, found_entry, left_where, left_of_entry}
use Rattle.join_rows.proofs.LevelLemmas.{filter-reverse, map-reverse}
use Rattle.join_rows.proofs.NextLemmas.{next-row, prior-row}
use Rattle.join_rows.proofs.SoughtLemmas.{all-records}
use Rattle.join_rows.proofs.JoinedLemmas.{filter-map, filter-same, both-all}
use Rattle.join_rows.proofs.WalkLemmas.{all-reverse}
use Rattle.join_rows.proofs.BackLemmas.{find-good}
use Rattle.join_rows.proofs.BelowLemmas.{fed-more}
use Rattle.join_rows.proofs.EntryLemmas.{entries_by, entries_at, entries-found, low-place, high-place, equal-place}

-- ---- the record of an entry

other-image : (entry : PathEntry) (n : ℕ) (slots : List Slot) → entry.rrn < n → image_of_entry entry (records_from n slots) ≡ []
other-image entry n [] low = refl
other-image entry n (Deleted ∷ slots) low = other-image entry (n + 1) slots (omega (arith, low))
other-image entry n (Live image ∷ slots) low =
    by (other-image entry (n + 1) slots (omega (arith, low))) (nat_cmp n entry.rrn) (ranked n entry.rrn (nat_cmp n entry.rrn) refl)
  where
    by : image_of_entry entry (records_from (n + 1) slots) ≡ [] → (o : Ordering) → MatchOrdering o (n < entry.rrn) (n ≡ entry.rrn) (entry.rrn < n)
        → cond (is_eq o) image (image_of_entry entry (records_from (n + 1) slots)) ≡ []
    by rest Less h = rest
    by rest Equal h = absurd (omega (arith, low, h))
    by rest Greater h = rest

slot-image : (entry : PathEntry) (n k : ℕ) (slots : List Slot) → entry.rrn ≡ n + k → image_of_entry entry (records_from n slots) ≡ image_of (slice_get slots k)
slot-image entry n k [] at = refl
slot-image entry n zero (Deleted ∷ slots) at = other-image entry (n + 1) slots (omega (arith, at))
slot-image entry n (suc k) (Deleted ∷ slots) at = slot-image entry (n + 1) k slots (omega (arith, at))
slot-image entry n zero (Live image ∷ slots) at = by (nat_cmp n entry.rrn) (ranked n entry.rrn (nat_cmp n entry.rrn) refl)
  where
    by : (o : Ordering) → MatchOrdering o (n < entry.rrn) (n ≡ entry.rrn) (entry.rrn < n) → cond (is_eq o) image (image_of_entry entry (records_from (n + 1) slots)) ≡ image
    by Less h = absurd (omega (arith, at, h))
    by Equal h = refl
    by Greater h = absurd (omega (arith, at, h))
slot-image entry n (suc k) (Live image ∷ slots) at =
    by (slot-image entry (n + 1) k slots (omega (arith, at))) (nat_cmp n entry.rrn) (ranked n entry.rrn (nat_cmp n entry.rrn) refl)
  where
    by : image_of_entry entry (records_from (n + 1) slots) ≡ image_of (slice_get slots k) → (o : Ordering) → MatchOrdering o (n < entry.rrn) (n ≡ entry.rrn) (entry.rrn < n)
        → cond (is_eq o) image (image_of_entry entry (records_from (n + 1) slots)) ≡ image_of (slice_get slots k)
    by rest Less h = rest
    by rest Equal h = absurd (omega (arith, at, h))
    by rest Greater h = absurd (omega (arith, at, h))

pub entry-image : (entry : PathEntry) (member : MemberState) → image_of_entry entry (records member) ≡ image_at member entry.rrn
entry-image entry member = by entry.rrn refl
  where
    by : (r : ℕ) → entry.rrn ≡ r → image_of_entry entry (records member) ≡ image_at member r
    by zero none = other-image entry 1 member.slots (omega (arith, none))
    by (suc k) some = slot-image entry 1 k member.slots (omega (arith, some)) ∙ ap (λ i. image_of (slice_get member.slots i)) (let e : k ≡ suc k - 1 = omega arith in e)
        ∙ ap image_of (sym (cond-false (suc k == 0) None (slice_get member.slots (suc k - 1)) (ne_eqb (suc k) 0 (λ e. absurd (omega arith)))))

-- ---- images of one file

fed-none : (files : List Secondary) → AreFed [] files
fed-none [] = tt
fed-none (file ∷ files) = ((λ low. absurd (omega (arith, low))), fed-none files)

left-where : (files : List Secondary) (places : List MatchPlace) (matches : List Match) → ArePlacesOf files places matches → (b : Bool)
    → IsLeft files (left_where b places) (cond b (Some matches) None)
left-where files places matches are true = are
left-where files places matches are false = tt

-- ---- a join file

-- the record of an entry is there, and is good for the files that are joined from the primary
pub record IsFine (spec : JoinSpec) (members : NumberedMembers) (entry : Entry) : Type 0 where
  pub first : entry.format ≡ 0
  pub feeds : Feeds 0 spec.secondaries (image_at (member_of (first_member spec.primary.formats) members) entry.rrn)

abbrev pub IfFine : JoinSpec → NumberedMembers → Option Entry → Type 0
IfFine spec members None = Unit {0}
IfFine spec members (Some entry) = IsFine spec members entry

-- what an entry gives
abbrev pub give_of : (back : Bool) → JoinSpec → NumberedMembers → model.Position RowPlace → PathEntry → Option JoinRow
give_of back spec members position p =
    found_below back spec.keeps_missing members spec.secondaries (row_of_entry spec members p) (below_entry spec.primary.ties position p)

-- what is still to be tried gives what all give
pub record IsOn (back : Bool) (spec : JoinSpec) (members : NumberedMembers) (primary : EntryList) (position : model.Position RowPlace) (at : Option Entry) : Type 0 where
  pub entries : List PathEntry
  pub bytes : map (in_bytes spec.primary.formats) entries ≡ entries_at back primary at
  pub gives : first_of (give_of back spec members position) entries ≡ found_row back spec members position
  pub good : AllByRecursion (IsEntryOf spec.primary.formats) entries

-- what is found below an entry
abbrev pub IsBelowEntry : (back : Bool) → JoinSpec → NumberedMembers → RowPosition → Entry → Option (List (Option ℕ)) → Type 0
IsBelowEntry back spec members from entry o =
    (row : JoinRow) (rest : Option (List Match)) → row.images ≡ image_at (member_of (first_member spec.primary.formats) members) entry.rrn ∷ []
    → IsLeft spec.secondaries (left_of_entry entry from) rest
    → option_map (row_by members spec.secondaries row) o ≡ found_below back spec.keeps_missing members spec.secondaries row rest

module _ (spec : JoinSpec) (members : NumberedMembers) (primary : EntryList) (secondaries : List EntryList) (can : CanBeRead spec members primary secondaries) where
  abbrev formats : List PathFormat
  formats = spec.primary.formats

  abbrev own : MemberState
  own = member_of can.format.member members

  abbrev member : MemberState
  member = member_of (first_member formats) members

  own-is : own ≡ member
  own-is = ap (λ fs. member_of (first_member fs) members) (sym can.one)

  fine-records : AllByRecursion (λ pair. Feeds 0 spec.secondaries (image_at own pair.0)) (records own)
  fine-records =
      both-all (λ pair. Feeds 0 spec.secondaries pair.1) (λ pair. (1 ≤ pair.0) × (slot_at own pair.0 ≡ Some (Live pair.1))) (λ pair. Feeds 0 spec.secondaries (image_at own pair.0))
      (λ pair feeds there. subst (Feeds 0 spec.secondaries) (sym (ap image_of there.1)) feeds) (records own)
      (recursion_from_All (λ pair. Feeds 0 spec.secondaries pair.1) (records own) can.records) (all-records own)

  abbrev IsFinePath : PathEntry → Type 0
  IsFinePath p = (p.format ≡ 0) × Feeds 0 spec.secondaries (image_at own p.rrn)

  fine-path : AllByRecursion IsFinePath (path spec.primary members)
  fine-path =
      subst (λ fs. AllByRecursion IsFinePath (in_order (compare_entries spec.primary.ties) (paths.entries_from 0 fs members))) (sym can.one)
      (all-in_order (compare_entries spec.primary.ties) IsFinePath (entries_of 0 can.format members ++ [])
      (all-append IsFinePath (entries_of 0 can.format members) []
      (all-map IsFinePath (entry_of 0 can.format) (filter (λ pair. selects can.format.rules pair.1) (records own))
      (all-filter (λ pair. IsFinePath (entry_of 0 can.format pair)) (λ pair. selects can.format.rules pair.1) (records own)
      (weaker (λ pair. Feeds 0 spec.secondaries (image_at own pair.0)) (λ pair. IsFinePath (entry_of 0 can.format pair)) (λ pair feeds. (refl, feeds)) (records own) fine-records)))
      tt))

  fine-entries : AllByRecursion (IsFine spec members) primary.entries
  fine-entries =
      subst (AllByRecursion (IsFine spec members)) (sym can.path.entries)
      (all-map (IsFine spec members) (in_bytes formats) (path spec.primary members)
      (weaker IsFinePath (λ p. IsFine spec members (in_bytes formats p))
      (λ p fine. record { first = fine.0; feeds = subst (λ m. Feeds 0 spec.secondaries (image_at m p.rrn)) own-is fine.1 }) (path spec.primary members) fine-path))

  pub fine-found : (back : Bool) (from : CursorPosition) (at : Option Entry) → at ≡ found_entry back primary from → IfFine spec members at
  fine-found back from None is = tt
  fine-found false from (Some entry) is = (find-good (IsFine spec members) (is_after primary.falling from) primary.entries entry fine-entries (sym is)).0
  fine-found true from (Some entry) is =
      (find-good (IsFine spec members) (is_before primary.falling from) (reverse primary.entries) entry (all-reverse (IsFine spec members) primary.entries fine-entries) (sym is)).0

  pub fed-first : (entry : Entry) → IsFine spec members entry → AreFed (image_at member entry.rrn ∷ []) spec.secondaries
  fed-first entry fine = fed-more [] (image_at member entry.rrn) spec.secondaries (fed-none spec.secondaries) fine.feeds

  row-images : (p : PathEntry) → (row_of_entry spec members p).images ≡ image_at member p.rrn ∷ []
  row-images p =
      ap (λ fs. image_of_entry p (primary_records fs members) ∷ []) can.one
      ∙ ap (λ w. w ∷ []) (entry-image p own)
      ∙ ap (λ m. image_at m p.rrn ∷ []) own-is

  -- ---- a position

  module _ (from : RowPosition) (position : model.Position RowPlace) (at-it : IsAt spec from position) where
    abbrev ties : Ties
    ties = spec.primary.ties

    abbrev falling : Bool
    falling = is_falling ties

    keys-match : All (λ key. Matches key (parts_in formats)) (map (λ format. format.key) formats)
    keys-match =
        subst (λ (fs : List PathFormat). All (λ key. Matches key (parts_in fs)) (map (λ format. format.key) fs)) (sym can.one)
        (All-from_recursion (λ key. Matches key can.format.key) (can.format.key ∷ []) (Matches-itself can.format.key, tt))

    -- where an entry stands is the same in bytes
    side : (place : model.Position PathEntry) → IsPositionOf formats (parts_in formats) place → (p : PathEntry) → IsEntryOf formats p
        → side_of falling (position_in_bytes formats (parts_in formats) place) (in_bytes formats p) ≡ model.side_of (model.path_reading ties (path spec.primary members)) place p
    side place stands p is = side-same formats (parts_in formats) keys-match ties (path spec.primary members) can.keys.match place stands p is

    next-same : (p : PathEntry) → IsEntryOf formats p → is_after falling (next_place falling from) (in_bytes formats p) ≡ entry_isnt_before ties position p
    next-same p is = by from position at-it
      where
        by : (from' : RowPosition) (position' : model.Position RowPlace) → IsAt spec from' position'
            → is_after falling (next_place falling from') (in_bytes formats p) ≡ entry_isnt_before ties position' p
        by rows.Start model.Start h = refl
        by rows.Start model.End h = absurd h
        by rows.Start (model.On place) h = absurd h
        by rows.Start (model.Before bound) h = absurd h
        by rows.Start (model.Past bound) h = absurd h
        by rows.End model.Start h = absurd h
        by rows.End model.End h = refl
        by rows.End (model.On place) h = absurd h
        by rows.End (model.Before bound) h = absurd h
        by rows.End (model.Past bound) h = absurd h
        by (rows.On key rrn matches) model.Start h = absurd h
        by (rows.On key rrn matches) model.End h = absurd h
        by (rows.On key rrn matches) (model.On place) h =
            low-place falling (key_cmp (in_bytes formats p).key key.now) (nat_cmp p.format 0) p.rrn rrn h.some h.most
            ∙ ap (λ e. not (is_lt (entry_cmp falling (in_bytes formats p) e))) (sym h.primary)
            ∙ ap (λ o. not (is_lt o)) (side (model.On place.primary) h.is_entry p is)
        by (rows.On key rrn matches) (model.Before bound) h = absurd h
        by (rows.On key rrn matches) (model.Past bound) h = absurd h
        by (rows.Before part) model.Start h = absurd h
        by (rows.Before part) model.End h = absurd h
        by (rows.Before part) (model.On place) h = absurd h
        by (rows.Before part) (model.Before (model.KeyBound values)) h =
            ap (λ w. is_after falling (Before (ByKey w)) (in_bytes formats p)) h.0 ∙ ap is_gt (side (model.Before (model.KeyBound values)) h.1 p is)
        by (rows.Before part) (model.Before (model.NumberBound n)) h = absurd h
        by (rows.Before part) (model.Past bound) h = absurd h
        by (rows.Past part) model.Start h = absurd h
        by (rows.Past part) model.End h = absurd h
        by (rows.Past part) (model.On place) h = absurd h
        by (rows.Past part) (model.Before bound) h = absurd h
        by (rows.Past part) (model.Past (model.KeyBound values)) h =
            ap (λ w. is_after falling (Past (ByKey w)) (in_bytes formats p)) h.0 ∙ ap is_gt (side (model.Past (model.KeyBound values)) h.1 p is)
        by (rows.Past part) (model.Past (model.NumberBound n)) h = absurd h

    prior-same : (p : PathEntry) → IsEntryOf formats p → is_before falling (prior_place falling from) (in_bytes formats p) ≡ entry_isnt_after ties position p
    prior-same p is = by from position at-it
      where
        by : (from' : RowPosition) (position' : model.Position RowPlace) → IsAt spec from' position'
            → is_before falling (prior_place falling from') (in_bytes formats p) ≡ entry_isnt_after ties position' p
        by rows.Start model.Start h = refl
        by rows.Start model.End h = absurd h
        by rows.Start (model.On place) h = absurd h
        by rows.Start (model.Before bound) h = absurd h
        by rows.Start (model.Past bound) h = absurd h
        by rows.End model.Start h = absurd h
        by rows.End model.End h = refl
        by rows.End (model.On place) h = absurd h
        by rows.End (model.Before bound) h = absurd h
        by rows.End (model.Past bound) h = absurd h
        by (rows.On key rrn matches) model.Start h = absurd h
        by (rows.On key rrn matches) model.End h = absurd h
        by (rows.On key rrn matches) (model.On place) h =
            high-place falling (key_cmp (in_bytes formats p).key key.now) (nat_cmp p.format 0) p.rrn rrn h.some h.most
            ∙ ap (λ e. not (is_gt (entry_cmp falling (in_bytes formats p) e))) (sym h.primary)
            ∙ ap (λ o. not (is_gt o)) (side (model.On place.primary) h.is_entry p is)
        by (rows.On key rrn matches) (model.Before bound) h = absurd h
        by (rows.On key rrn matches) (model.Past bound) h = absurd h
        by (rows.Before part) model.Start h = absurd h
        by (rows.Before part) model.End h = absurd h
        by (rows.Before part) (model.On place) h = absurd h
        by (rows.Before part) (model.Before (model.KeyBound values)) h =
            ap (λ w. is_before falling (Before (ByKey w)) (in_bytes formats p)) h.0 ∙ ap is_lt (side (model.Before (model.KeyBound values)) h.1 p is)
        by (rows.Before part) (model.Before (model.NumberBound n)) h = absurd h
        by (rows.Before part) (model.Past bound) h = absurd h
        by (rows.Past part) model.Start h = absurd h
        by (rows.Past part) model.End h = absurd h
        by (rows.Past part) (model.On place) h = absurd h
        by (rows.Past part) (model.Before bound) h = absurd h
        by (rows.Past part) (model.Past (model.KeyBound values)) h =
            ap (λ w. is_before falling (Past (ByKey w)) (in_bytes formats p)) h.0 ∙ ap is_lt (side (model.Past (model.KeyBound values)) h.1 p is)
        by (rows.Past part) (model.Past (model.NumberBound n)) h = absurd h

    -- what is left of the position below an entry
    left-same : (e : Entry) → e.format ≡ 0 → (p : PathEntry) → IsEntryOf formats p → in_bytes formats p ≡ e → IsLeft spec.secondaries (left_of_entry e from) (below_entry ties position p)
    left-same e first p is same = by from position at-it
      where
        by : (from' : RowPosition) (position' : model.Position RowPlace) → IsAt spec from' position' → IsLeft spec.secondaries (left_of_entry e from') (below_entry ties position' p)
        by rows.Start model.Start h = tt
        by rows.Start model.End h = absurd h
        by rows.Start (model.On place) h = absurd h
        by rows.Start (model.Before bound) h = absurd h
        by rows.Start (model.Past bound) h = absurd h
        by rows.End model.Start h = absurd h
        by rows.End model.End h = tt
        by rows.End (model.On place) h = absurd h
        by rows.End (model.Before bound) h = absurd h
        by rows.End (model.Past bound) h = absurd h
        by (rows.On key rrn matches) model.Start h = absurd h
        by (rows.On key rrn matches) model.End h = absurd h
        by (rows.On key rrn matches) (model.On place) h =
            let there : Bool = is_eq (ordering_then (key_cmp e.key key.now) (nat_cmp e.rrn rrn)) in
            let equal : there ≡ is_eq (compare_entries ties p place.primary) =
            equal-place falling (key_cmp e.key key.now) e.format e.rrn rrn first
            ∙ ap (λ x. is_eq (entry_cmp falling e x)) (sym h.primary)
            ∙ ap (λ x. is_eq (entry_cmp falling x (in_bytes formats place.primary))) (sym same)
            ∙ ap is_eq (side (model.On place.primary) h.is_entry p is) in
            subst (λ b. IsLeft spec.secondaries (left_where there matches.now) (cond b (Some place.matches) None)) equal (left-where spec.secondaries matches.now place.matches h.secondaries there)
        by (rows.On key rrn matches) (model.Before bound) h = absurd h
        by (rows.On key rrn matches) (model.Past bound) h = absurd h
        by (rows.Before part) model.Start h = absurd h
        by (rows.Before part) model.End h = absurd h
        by (rows.Before part) (model.On place) h = absurd h
        by (rows.Before part) (model.Before bound) h = tt
        by (rows.Before part) (model.Past bound) h = absurd h
        by (rows.Past part) model.Start h = absurd h
        by (rows.Past part) model.End h = absurd h
        by (rows.Past part) (model.On place) h = absurd h
        by (rows.Past part) (model.Before bound) h = absurd h
        by (rows.Past part) (model.Past bound) h = tt

    -- ---- the entries that may have a row

    abbrev path_by : Bool → List PathEntry
    path_by back = cond back (reverse (filter (entry_isnt_after ties position) (path spec.primary members))) (filter (entry_isnt_before ties position) (path spec.primary members))

    are-entries : AllByRecursion (IsEntryOf formats) (path spec.primary members)
    are-entries = path-entries spec.primary members can.keys

    path-bytes : (back : Bool) → map (in_bytes formats) (path_by back) ≡ entries_by back primary (place_by back falling from)
    path-bytes false =
        ap (map (in_bytes formats))
        (sym (filter-same (IsEntryOf formats) (λ p. is_after falling (next_place falling from) (in_bytes formats p))
        (entry_isnt_before ties position) next-same (path spec.primary members) are-entries))
        ∙ sym (filter-map (is_after falling (next_place falling from)) (in_bytes formats) (path spec.primary members))
        ∙ ap (filter (is_after falling (next_place falling from))) (sym can.path.entries)
        ∙ ap (λ f. filter (is_after f (next_place falling from)) primary.entries) (sym can.path.falling)
    path-bytes true =
        ap (λ ps. map (in_bytes formats) (reverse ps))
        (sym (filter-same (IsEntryOf formats) (λ p. is_before falling (prior_place falling from) (in_bytes formats p))
        (entry_isnt_after ties position) prior-same (path spec.primary members) are-entries))
        ∙ sym (map-reverse (in_bytes formats) (filter (λ p. is_before falling (prior_place falling from) (in_bytes formats p)) (path spec.primary members)))
        ∙ ap reverse (sym (filter-map (is_before falling (prior_place falling from)) (in_bytes formats) (path spec.primary members)))
        ∙ ap (λ es. reverse (filter (is_before falling (prior_place falling from)) es)) (sym can.path.entries)
        ∙ sym (filter-reverse (is_before falling (prior_place falling from)) primary.entries)
        ∙ ap (λ f. filter (is_before f (prior_place falling from)) (reverse primary.entries)) (sym can.path.falling)

    path-good : (back : Bool) → AllByRecursion (IsEntryOf formats) (path_by back)
    path-good false = all-filter (IsEntryOf formats) (entry_isnt_before ties position) (path spec.primary members) are-entries
    path-good true =
        all-reverse (IsEntryOf formats) (filter (entry_isnt_after ties position) (path spec.primary members))
        (all-filter (IsEntryOf formats) (entry_isnt_after ties position) (path spec.primary members) are-entries)

    place-keyed : (back : Bool) → IsByKey (place_by back falling from)
    place-keyed back = by back from
      where
        by : (back' : Bool) (from' : RowPosition) → IsByKey (place_by back' falling from')
        by false rows.Start = tt
        by false rows.End = tt
        by false (rows.On key rrn matches) = tt
        by false (rows.Before part) = tt
        by false (rows.Past part) = tt
        by true rows.Start = tt
        by true rows.End = tt
        by true (rows.On key rrn matches) = tt
        by true (rows.Before part) = tt
        by true (rows.Past part) = tt

    module _ (back : Bool) where
      abbrev give : PathEntry → Option JoinRow
      give p = give_of back spec members position p

      abbrev Underway : Option Entry → Type 0
      Underway at = IsOn back spec members primary position at

      abbrev Below : Entry → Option (List (Option ℕ)) → Type 0
      Below entry o = IsBelowEntry back spec members from entry o

      by-levels : (back' : Bool) → found_row back' spec members position
          ≡ first_of (λ p. found_below back' spec.keeps_missing members spec.secondaries (row_of_entry spec members p) (below_entry ties position p)) (path_by back')
      by-levels false = next-row spec members position
      by-levels true = prior-row spec members position

      module _ (sorted : IsInOrder primary.falling primary.entries) where
        pub first-on : (at : Option Entry) → at ≡ found_entry back primary (place_by back falling from) → Underway at
        first-on at is = record {
          entries = path_by back;
          bytes = path-bytes back ∙ entries-found back primary (place_by back falling from) (place-keyed back) sorted at is;
          gives = sym (by-levels back);
          good = path-good back;
        }

        here : (entry : Entry) → IsFine spec members entry → (p : PathEntry) → IsEntryOf formats p → in_bytes formats p ≡ entry → (o : Option (List (Option ℕ))) → Below entry o
            → option_map (row_by members spec.secondaries (row_of_entry spec members p)) o ≡ give p
        here entry fine p is same o rec =
            rec (row_of_entry spec members p) (below_entry ties position p)
            (row-images p ∙ ap (λ (e : Entry). image_at member e.rrn ∷ []) same)
            (left-same entry fine.first p is same)

        no-entry : {A : Type 0} (entry : Entry) (es : List Entry) → [] ≡ entry ∷ es → A
        no-entry entry es h = absurd (let e : ◌≡◌ {A = List Entry} [] (entry ∷ es) = h in cc)

        head-same : (p : PathEntry) (ps : List PathEntry) (entry : Entry) (es : List Entry) → map (in_bytes formats) (p ∷ ps) ≡ entry ∷ es
            → (in_bytes formats p ≡ entry) × (map (in_bytes formats) ps ≡ es)
        head-same p ps entry es h =
            let e : ◌≡◌ {A = List Entry} (in_bytes formats p ∷ map (in_bytes formats) ps) (entry ∷ es) = h in
            let one : in_bytes formats p ≡ entry = cc in
            let two : map (in_bytes formats) ps ≡ es = cc in
            (one, two)

        -- a row is found
        pub found-on : (entry : Entry) → IsFine spec members entry → Underway (Some entry) → (found : Row) → found.primary.now ≡ entry → Below entry (Some found.numbers.items)
            → IsFound spec members (Some found) (found_row back spec members position)
        found-on entry fine on found same rec = by on.entries on.bytes on.gives on.good
          where
            by : (ps : List PathEntry) → map (in_bytes formats) ps ≡ entries_at back primary (Some entry) → first_of give ps ≡ found_row back spec members position
                → AllByRecursion (IsEntryOf formats) ps
                → IsFound spec members (Some found) (found_row back spec members position)
            by [] bytes gives good = no-entry entry (entries_by back primary (On entry)) bytes
            by (p ∷ ps) bytes gives good =
                let its = head-same p ps entry (entries_by back primary (On entry)) bytes in
                subst (IsFound spec members (Some found))
                (ap (λ o. option_or o (first_of give ps)) (here entry fine p good.0 its.0 (Some found.numbers.items) rec) ∙ gives)
                (record { entry = p; primary = its.0 ∙ sym same; is = refl })

        -- none is, so the next entry is tried
        pub next-on : (entry : Entry) → IsFine spec members entry → Underway (Some entry) → Below entry None → (at : Option Entry) → at ≡ found_entry back primary (On entry) → Underway at
        next-on entry fine on rec at is = by on.entries on.bytes on.gives on.good
          where
            by : (ps : List PathEntry) → map (in_bytes formats) ps ≡ entries_at back primary (Some entry) → first_of give ps ≡ found_row back spec members position
                → AllByRecursion (IsEntryOf formats) ps → Underway at
            by [] bytes gives good = no-entry entry (entries_by back primary (On entry)) bytes
            by (p ∷ ps) bytes gives good =
                let its = head-same p ps entry (entries_by back primary (On entry)) bytes in record {
                  entries = ps;
                  bytes = its.1 ∙ entries-found back primary (On entry) tt sorted at is;
                  gives = ap (λ o. option_or o (first_of give ps)) (here entry fine p good.0 its.0 None rec) ∙ gives;
                  good = good.1;
                }

        -- there is none left
        pub none-on : Underway None → IsFound spec members None (found_row back spec members position)
        none-on on = by on.entries on.bytes on.gives
          where
            by : (ps : List PathEntry) → map (in_bytes formats) ps ≡ [] → first_of give ps ≡ found_row back spec members position → IsFound spec members None (found_row back spec members position)
            by [] bytes gives = subst (IsFound spec members None) gives tt
            by (p ∷ ps) bytes gives = no-entry (in_bytes formats p) (map (in_bytes formats) ps) (sym bytes)

-- the entries after an entry are fewer
pub fewer-entries : (back : Bool) (list : EntryList) (entry : Entry) (at : Option Entry) → IsInOrder list.falling list.entries → at ≡ found_entry back list (On entry)
    → length (entries_at back list at) < length (entries_at back list (Some entry))
fewer-entries back list entry at sorted is =
    let same : length (entries_by back list (On entry)) ≡ length (entries_at back list at) = ap length (entries-found back list (On entry) tt sorted at is) in
    omega arith

-- what is found below an entry, by the values that stand for the file's
pub below-entry : (back : Bool) (spec : JoinSpec) (members : NumberedMembers) (from : RowPosition) (entry : Entry) (files : List Secondary) → files ≡ spec.secondaries
    → (images : List (List ℕ)) → images ≡ image_at (member_of (first_member spec.primary.formats) members) entry.rrn ∷ [] → (left : Option (List MatchPlace)) → left ≡ left_of_entry entry from
    → (o found : Option (List (Option ℕ))) → o ≡ found
    → ((row : JoinRow) (rest : Option (List Match)) → row.images ≡ images → IsLeft files left rest
    → option_map (row_by members files row) o ≡ found_below back spec.keeps_missing members files row rest)
    → IsBelowEntry back spec members from entry found
below-entry back spec members from entry files same images shown left rests o found is rec = λ row rest images-are left-is.
    subst (λ (fs : List Secondary). option_map (row_by members fs row) found ≡ found_below back spec.keeps_missing members fs row rest) same
    (ap (option_map (row_by members files row)) (sym is)
    ∙ rec row rest (images-are ∙ sym shown)
    (subst (λ (l : Option (List MatchPlace)). IsLeft files l rest) (sym rests) (subst (λ (fs : List Secondary). IsLeft fs (left_of_entry entry from) rest) (sym same) left-is)))
