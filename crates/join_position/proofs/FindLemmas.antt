-- What a read finds is the definition's row, and an open can stand on it.
use Rattle.std.proofs.Common.{◌≡◌, ℕ, zero, suc, ◌≤◌, ◌<◌, ◌==◌, Bool, true, false, cond, Option, Some, None, Result, Ok, Err, List, [], ◌∷◌, ◌++◌, length, map, refl, sym, ◌∙◌, ap, subst, arith, append_assoc, append-nil}
use Rattle.std.specs.Prelude.{All, reverse, IfOk, IfSome}
use Rattle.std.specs.List.{AllByRecursion, find}
use Rattle.std.specs.Option.{option_map}
use Rattle.std.specs.Ordering.{is_eq, is_lt, is_gt}
use Rattle.std.proofs.lemmas.Bool.{cond_both}
use Rattle.std.proofs.lemmas.List.Elements.{All-from_recursion}
use Rattle.key_spec.specs.declared.KeyPart.{KeyPart}
use Rattle.key_pages.specs.declared.entries.Entry.{Entry}
use Rattle.key_pages.specs.EntryList.{EntryList}
use Rattle.key_pages.specs.Order.{IsInOrder}
use Rattle.member_slots.specs.Members.{NumberedMembers}
use Rattle.file_model.specs.declared.paths.PathFormat.{PathFormat}
use Rattle.file_model.specs.declared.joins.Secondary.{Secondary}
use Rattle.file_model.specs.declared.joins.JoinSpec.{JoinSpec}
use Rattle.file_model.specs.KeyOrder.{KeyValue, key_of, begins_with}
use Rattle.file_model.specs.Joins.{Match, RowPlace, JoinRow, row_with, rows_of}
use Rattle.file_model.specs.Paths.{PathEntry}
use Rattle.file_model.specs.Positions as model
use Rattle.file_model.proofs.PathLemmas.{all-append}
use Rattle.access_path.specs.KeyBytes.{key_bytes}
use Rattle.access_path.specs.KeyFields.{Matches, key_width}
use Rattle.access_path.proofs.KeyLemmas.{Matches-itself}
use Rattle.open_position.specs.KeyValues.{values_in}
use Rattle.access_path.specs.PathBytes.{parts_of, in_bytes}
use Rattle.join_rows.specs.Finding.{compare_part}
use Rattle.join_rows.specs.PositionBytes.{IsEntryOf, HasKeysWithin}
use Rattle.join_rows.proofs.FileCursorEntryLemmas.{begins-same}
use Rattle.join_rows.proofs.ListLemmas.{reverse-cons, map-reverse, find-map}
use Rattle.join_rows.specs.declared.positions.MatchPlace.{MatchPlace}
use Rattle.join_rows.specs.declared.positions.RowPosition.{RowPosition}
use Rattle.join_rows.specs.declared.rows.Row.{Row}
use Rattle.join_rows.specs.NextRow.{rows_reading, row_of_entry, next_row, prior_row}
use Rattle.join_rows.specs.Numbers.{matched_number, row_by}
use Rattle.join_rows.specs.Rows.{CanBeRead, IsAt, IsRow, IsFound, found_row, parts_in}
use Rattle.join_rows.specs.Standing.{IsMatchAt, AreMatchesOf, CanBeStoodOn}
use Rattle.open_position.specs.declared.reads.ReadBy.{ReadBy}
use Rattle.open_position.specs.declared.reads.ReadBy.TheVariants as asked
use Rattle.open_position.specs.OpenStand.{AreGivenBytes, entry_by}
use Rattle.join_position.specs.declared.position.Stand.{Stand}
use Rattle.join_position.specs.RowStand.{JoinStand}
use Rattle.join_position.specs.Kept.{MatchKept, IsStandFor, IsStandIn, ArePlaced, stand_of, position_by}
use Rattle.join_position.specs.RowReads.{asked_of, asked_row, IsAskedOf, IsJoinOf, HasSequences, IsNumber, AreNumbers, CanBeKept, where_row, where_bytes, matches_by, place_of}
use Rattle.join_position.proofs.BackLemmas.{image-back, given-known}
use Rattle.join_position.proofs.ChainLemmas.{chained}
use Rattle.join_position.proofs.RowLemmas.{AreAll, IsImage, IsWithin, rows-within}

-- ---- results

pub if-ok : {T E : Type 0} (r : Result T E) (P Q : T → Type 0) → ((x : T) → P x → Q x) → IfOk r P → IfOk r Q
if-ok (Ok x) P Q so h = so x h
if-ok (Err e) P Q so h = tt

-- ---- what is found among all

pub all-reverse : {A : Type 0} (P : A → Type 0) (xs : List A) → AllByRecursion P xs → AllByRecursion P (reverse xs)
all-reverse P [] all = tt
all-reverse P (x ∷ xs) all = subst (AllByRecursion P) (sym (reverse-cons x xs)) (all-append P (reverse xs) (x ∷ []) (all-reverse P xs all.1) (all.0, tt))

pub find-holds : {A : Type 0} (P : A → Type 0) (q : A → Bool) (xs : List A) → AllByRecursion P xs → IfSome (find q xs) P
find-holds P q [] all = tt
find-holds {A = A} P q (x ∷ xs) all =
    let rest = find-holds P q xs all.1 in
    cond_both (q x) (Some x) (find q xs) (λ (o : Option A). IfSome o P) (λ _. all.0) (λ _. rest)

-- ---- the places of rows

module _ (spec : JoinSpec) (members : NumberedMembers) where
  abbrev place : JoinRow → RowPlace
  place row = row.place

  where-place : (values : List KeyValue) (o : Option JoinRow) → option_map place (where_row values o) ≡ model.where_equal (rows_reading spec members) values (option_map place o)
  where-place values None = refl
  where-place values (Some row) = by (begins_with values row.place.primary.key)
    where
      by : (b : Bool) → option_map place (cond b (Some row) None) ≡ cond b (Some row.place) None
      by true = refl
      by false = refl

  next-place : (position : model.Position RowPlace) → option_map place (next_row spec members position) ≡ model.next_from (rows_reading spec members) position
  next-place position = sym (find-map place (λ item. is_gt (model.side_of (rows_reading spec members) position item)) (rows_of spec members))

  prior-place : (position : model.Position RowPlace) → option_map place (prior_row spec members position) ≡ model.prior_from (rows_reading spec members) position
  prior-place position =
      sym (ap (find (λ item. is_lt (model.side_of (rows_reading spec members) position item))) (map-reverse place (rows_of spec members))
      ∙ find-map place (λ item. is_lt (model.side_of (rows_reading spec members) position item)) (reverse (rows_of spec members)))

  pub asked-place : (by : ReadBy) (parts : List KeyPart) (position : model.Position RowPlace)
      → option_map place (asked_row by parts spec members position) ≡ asked_of by parts (rows_reading spec members) position
  asked-place asked.Next parts position = next-place position
  asked-place asked.Prior parts position = prior-place position
  asked-place (asked.NextEqual key) parts position =
      where-place (values_in parts key.now) (next_row spec members position) ∙ ap (model.where_equal (rows_reading spec members) (values_in parts key.now)) (next-place position)
  asked-place (asked.PriorEqual key) parts position =
      where-place (values_in parts key.now) (prior_row spec members position) ∙ ap (model.where_equal (rows_reading spec members) (values_in parts key.now)) (prior-place position)
  asked-place (asked.FirstEqual key) parts position = sym (find-map place (λ item. begins_with (values_in parts key.now) item.primary.key) (rows_of spec members))
  asked-place (asked.Number rrn) parts position = sym (find-map place (λ item. item.primary.rrn == rrn) (rows_of spec members))

-- ---- the row of an entry and of numbers

module _ (members : NumberedMembers) where
  by-entry : (files : List Secondary) (row : JoinRow) (numbers : List (Option ℕ)) → (row_by members files row numbers).place.primary ≡ row.place.primary
  by-entry [] row [] = refl
  by-entry [] row (n ∷ numbers) = refl
  by-entry (file ∷ files) row [] = refl
  by-entry (file ∷ files) row (n ∷ numbers) = by-entry files (row_with row (matched_number file members n)) numbers

  by-matches : (files : List Secondary) (row : JoinRow) (numbers : List (Option ℕ)) → (row_by members files row numbers).place.matches ≡ row.place.matches ++ matches_by members files numbers
  by-matches [] row [] = sym (append-nil row.place.matches)
  by-matches [] row (n ∷ numbers) = sym (append-nil row.place.matches)
  by-matches (file ∷ files) row [] = sym (append-nil row.place.matches)
  by-matches (file ∷ files) row (n ∷ numbers) =
      by-matches files (row_with row (matched_number file members n)) numbers
      ∙ append_assoc row.place.matches ((matched_number file members n).match ∷ []) (matches_by members files numbers)

  one-number : (file : Secondary) (n : Option ℕ) → IsMatchAt file (matched_number file members n).match → IsImage members file (matched_number file members n).match → IsNumber members file n
  one-number file None there held = tt
  one-number file (Some rrn) there held = (there.1.1, there.0, held)

  are-numbers : (files : List Secondary) (numbers : List (Option ℕ)) → AreMatchesOf files (matches_by members files numbers) → AreAll (IsImage members) files (matches_by members files numbers)
      → AreNumbers members files numbers
  are-numbers [] numbers there held = tt
  are-numbers (file ∷ files) [] there held = absurd there
  are-numbers (file ∷ files) (n ∷ numbers) there held = (one-number file n there.0 held.0, are-numbers files numbers there.1 held.1)

-- ---- what contracts see

-- an open can stand on each row that is found from a position
abbrev pub AreStoodOn : JoinSpec → NumberedMembers → Type 0
AreStoodOn spec members = (back : Bool) (position : model.Position RowPlace) (row : JoinRow) → found_row back spec members position ≡ Some row → CanBeStoodOn spec row.place

pub record Finds (parts : List KeyPart) (spec : JoinSpec) (members : NumberedMembers) (by : ReadBy) (position : model.Position RowPlace) (o : Option Row) : Type 0 where
  pub place : option_map (place_of parts spec members) o ≡ asked_of by parts (rows_reading spec members) position
  pub row : IsFound spec members o (asked_row by parts spec members position)
  pub kept : IfSome o (λ row. CanBeKept parts spec members row)

-- ---- a join file that can be read

own-parts : (format : PathFormat) (formats : List PathFormat) → formats ≡ format ∷ [] → (n : ℕ) → n < length formats → (n ≡ 0) × (parts_of formats n ≡ parts_in formats)
own-parts format formats one n low =
    subst (λ (fs : List PathFormat). n < length fs → (n ≡ 0) × (parts_of fs n ≡ parts_in fs)) (sym one) (first n) low
  where
    first : (k : ℕ) → k < length (format ∷ []) → (k ≡ 0) × (parts_of (format ∷ []) k ≡ format.key)
    first zero low = (refl, refl)
    first (suc k) low = absurd (omega (arith, low))

module _ (spec : JoinSpec) (members : NumberedMembers) (primary : EntryList) (secondaries : List EntryList) (can : CanBeRead spec members primary secondaries)
    (stood-on : AreStoodOn spec members) where
  abbrev formats : List PathFormat
  formats = spec.primary.formats

  abbrev parts : List KeyPart
  parts = parts_in formats

  keys-match : All (λ key. Matches key parts) (map (λ format. format.key) formats)
  keys-match =
      subst (λ (fs : List PathFormat). All (λ key. Matches key (parts_in fs)) (map (λ format. format.key) fs)) (sym can.one)
      (All-from_recursion (λ key. Matches key can.format.key) (can.format.key ∷ []) (Matches-itself can.format.key, tt))

  abbrev IsStood : JoinRow → Type 0
  IsStood row = CanBeStoodOn spec row.place

  pub next-stood : (position : model.Position RowPlace) (o : Option JoinRow) → next_row spec members position ≡ o → IfSome o IsStood
  next-stood position None is = tt
  next-stood position (Some row) is = stood-on false position row is

  pub prior-stood : (position : model.Position RowPlace) (o : Option JoinRow) → prior_row spec members position ≡ o → IfSome o IsStood
  prior-stood position None is = tt
  prior-stood position (Some row) is = stood-on true position row is

  row-entry : (found : Row) (row : JoinRow) (is : IsRow spec members found row) → row.place.primary ≡ is.entry
  row-entry found row is = ap (λ (r : JoinRow). r.place.primary) is.is ∙ by-entry members spec.secondaries (row_of_entry spec members is.entry) found.numbers.items

  begins-row : (key : List ℕ) → AreGivenBytes parts key → (found : Row) (row : JoinRow) → IsRow spec members found row → IsStood row
      → is_eq (compare_part key found.primary.now.key) ≡ begins_with (values_in parts key) row.place.primary.key
  begins-row key given found row is stood =
      let good = given-known parts key given in
      let entry-good : IsEntryOf formats is.entry = subst (IsEntryOf formats) (row-entry found row is) stood.is_entry in
      ap (λ (e : Entry). is_eq (compare_part key e.key)) (sym is.primary)
      ∙ ap (λ (k : List ℕ). is_eq (compare_part k (in_bytes formats is.entry).key)) good.0
      ∙ begins-same formats parts keys-match (values_in parts key) good.1 is.entry entry-good
      ∙ ap (λ (e : PathEntry). begins_with (values_in parts key) e.key) (sym (row-entry found row is))

  -- a test that passes both the row and its bytes
  pub where-found : (key : List ℕ) → AreGivenBytes parts key → (o : Option Row) (j : Option JoinRow) → IfSome j IsStood → IsFound spec members o j
      → IsFound spec members (where_bytes key o) (where_row (values_in parts key) j)
  where-found key given None None stood is = tt
  where-found key given None (Some row) stood is = absurd is
  where-found key given (Some found) None stood is = absurd is
  where-found key given (Some found) (Some row) stood is =
      subst (λ (b : Bool). IsFound spec members (cond (is_eq (compare_part key found.primary.now.key)) (Some found) None) (cond b (Some row) None))
      (begins-row key given found row is stood) (by (is_eq (compare_part key found.primary.now.key)))
    where
      by : (b : Bool) → IsFound spec members (cond b (Some found) None) (cond b (Some row) None)
      by true = is
      by false = tt

  -- ---- on what is found an open can stand

  module _ (most : ℕ) (has : All (HasKeysWithin most members) spec.primary.formats) (sequenced : All (HasSequences members) spec.secondaries) where
    record IsGood (row : JoinRow) : Type 0 where
      stood : CanBeStoodOn spec row.place
      within : IsWithin members spec row

    within : AllByRecursion (IsWithin members spec) (rows_of spec members)
    within = rows-within members spec primary secondaries can most has sequenced

    both-good : (o : Option JoinRow) → IfSome o IsStood → IfSome o (IsWithin members spec) → IfSome o IsGood
    both-good None stood near = tt
    both-good (Some row) stood near = record { stood = stood; within = near }

    good-next : (position : model.Position RowPlace) → IfSome (next_row spec members position) IsGood
    good-next position =
        both-good (next_row spec members position) (next-stood position (next_row spec members position) refl)
        (find-holds (IsWithin members spec) (λ r. is_gt (model.side_of (rows_reading spec members) position r.place)) (rows_of spec members) within)

    good-prior : (position : model.Position RowPlace) → IfSome (prior_row spec members position) IsGood
    good-prior position =
        both-good (prior_row spec members position) (prior-stood position (prior_row spec members position) refl)
        (find-holds (IsWithin members spec) (λ r. is_lt (model.side_of (rows_reading spec members) position r.place)) (reverse (rows_of spec members))
        (all-reverse (IsWithin members spec) (rows_of spec members) within))

    good-where : (values : List KeyValue) (o : Option JoinRow) → IfSome o IsGood → IfSome (where_row values o) IsGood
    good-where values None good = tt
    good-where values (Some row) good =
        cond_both (begins_with values row.place.primary.key) (Some row) None (λ (o : Option JoinRow). IfSome o IsGood) (λ _. good) (λ _. tt)

    good-asked : IsInOrder primary.falling primary.entries → (by : ReadBy) (position : model.Position RowPlace) → IsAskedOf parts by → IfSome (asked_row by parts spec members position) IsGood
    good-asked sorted asked.Next position can-ask = good-next position
    good-asked sorted asked.Prior position can-ask = good-prior position
    good-asked sorted (asked.NextEqual key) position can-ask = good-where (values_in parts key.now) (next_row spec members position) (good-next position)
    good-asked sorted (asked.PriorEqual key) position can-ask = good-where (values_in parts key.now) (prior_row spec members position) (good-prior position)
    good-asked sorted (asked.FirstEqual key) position can-ask =
        let values : List KeyValue = values_in parts key.now in
        let before : model.Position RowPlace = model.Before (model.KeyBound values) in
        let given = given-known parts key.now can-ask in
        subst (λ (o : Option JoinRow). IfSome o IsGood) (chained spec members values primary secondaries can key given.0 given.1 sorted)
        (good-where values (next_row spec members before) (good-next before))
    good-asked sorted (asked.Number rrn) position can-ask = absurd can-ask

    -- ---- its place

    entry-back : (e : PathEntry) → IsEntryOf formats e → entry_by parts (in_bytes formats e) ≡ e
    entry-back e is =
        let own = own-parts can.format formats can.one e.format is.format in
        ap (λ (k : List KeyValue). record { key = k; format = e.format; rrn = e.rrn })
        (ap (λ (p : List KeyPart). values_in parts (key_bytes p e.key)) own.1
        ∙ ap (λ (k : List KeyValue). values_in parts (key_bytes parts k)) (is.key.2 ∙ ap (λ (p : List KeyPart). key_of p is.key.0) own.1)
        ∙ image-back parts is.key.0 is.key.1
        ∙ sym (is.key.2 ∙ ap (λ (p : List KeyPart). key_of p is.key.0) own.1))

    abbrev Shows : Option Row → Option JoinRow → Type 0
    Shows o j = (option_map (place_of parts spec members) o ≡ option_map (λ row. row.place) j) × IfSome o (λ row. CanBeKept parts spec members row)

    shows : (o : Option Row) (j : Option JoinRow) → IsFound spec members o j → IfSome j IsGood → Shows o j
    shows None None is good = (refl, tt)
    shows None (Some row) is good = absurd is
    shows (Some found) None is good = absurd is
    shows (Some found) (Some row) is good =
        let same : row.place.primary ≡ is.entry = row-entry found row is in
        let entry-good : IsEntryOf formats is.entry = subst (IsEntryOf formats) same good.stood.is_entry in
        let own = own-parts can.format formats can.one is.entry.format entry-good.format in
        let matches : row.place.matches ≡ matches_by members spec.secondaries found.numbers.items =
        ap (λ (r : JoinRow). r.place.matches) is.is ∙ by-matches members spec.secondaries (row_of_entry spec members is.entry) found.numbers.items in
        let entry : entry_by parts found.primary.now ≡ row.place.primary =
        ap (entry_by parts) (sym is.primary) ∙ entry-back is.entry entry-good ∙ sym same in
        let number : row.place.primary.rrn ≡ found.primary.now.rrn = ap (λ (e : PathEntry). e.rrn) same ∙ ap (λ (e : Entry). e.rrn) is.primary in (
          ap Some (ap (λ (e : PathEntry). with-matches e (matches_by members spec.secondaries found.numbers.items)) entry ∙ ap (with-matches row.place.primary) (sym matches)),
          record {
            first = ap (λ (e : Entry). e.format) (sym is.primary) ∙ own.0;
            some = subst (λ n. 1 ≤ n) number good.stood.some;
            most = subst (λ n. n < 4294967295) number good.stood.most;
            key = record {
              held = (
                entry-good.key.0,
                entry-good.key.1,
                ap (λ (e : Entry). e.key) (sym is.primary)
                    ∙ ap (λ (p : List KeyPart). key_bytes p is.entry.key) own.1
                    ∙ ap (key_bytes parts) (entry-good.key.2 ∙ ap (λ (p : List KeyPart). key_of p entry-good.key.0) own.1),
              );
            };
            short =
                subst (λ (k : List ℕ). length k ≤ key_width parts)
                (ap (λ (e : PathEntry). (in_bytes formats e).key) same ∙ ap (λ (e : Entry). e.key) is.primary) good.within.0;
            numbers =
                are-numbers members spec.secondaries found.numbers.items
                (subst (AreMatchesOf spec.secondaries) matches good.stood.matches)
                (subst (AreAll (IsImage members) spec.secondaries) matches good.within.1);
          },
        )
      where
        with-matches : PathEntry → List Match → RowPlace
        with-matches e matches = record { primary = e; matches = matches }

    pub finds-here : IsInOrder primary.falling primary.entries → (by : ReadBy) (position : model.Position RowPlace) → IsAskedOf parts by → (o : Option Row)
        → IsFound spec members o (asked_row by parts spec members position) → Finds parts spec members by position o
    finds-here sorted by position can-ask o is =
        let good = shows o (asked_row by parts spec members position) is (good-asked sorted by position can-ask) in
        record { place = good.0 ∙ asked-place spec members by parts position; row = is; kept = good.1 }

-- ---- by the position that an open keeps

module _ (parts : List KeyPart) (stand : Stand) (key : List ℕ) (matches : List MatchKept) (now : JoinStand) (is : stand_of parts stand key matches ≡ now) (spec : JoinSpec) (members : NumberedMembers)
    (primary : EntryList) (secondaries : List EntryList) (join : IsJoinOf now spec members primary secondaries) where
  pub stands-for : IsStandFor spec parts matches
  stands-for = record {
    one = (join.read.format, join.read.one);
    parts_are = join.parts ∙ sym (ap (λ (s : JoinStand). s.parts) is);
    sequences = join.sequences ∙ sym (ap (λ (s : JoinStand). s.sequences) is);
  }

  pub can-ask : (by : ReadBy) → IsAskedOf now.parts by → IsAskedOf (parts_in spec.primary.formats) by
  can-ask by asked = subst (λ (p : List KeyPart). IsAskedOf p by) (sym join.parts) asked

  pub finds : {E : Type 0} → AreStoodOn spec members → IsInOrder primary.falling primary.entries → (by : ReadBy) → IsAskedOf now.parts by → (r : Result (Option Row) E)
      → IfOk r (λ o. IsFound spec members o (asked_row by (parts_in spec.primary.formats) spec members (position_by parts stand key matches)))
      → IfOk r (λ o. Finds now.parts spec members by now.position o)
  finds stood-on sorted by asked r found =
      if-ok r (λ o. IsFound spec members o (asked_row by (parts_in spec.primary.formats) spec members (position_by parts stand key matches))) (λ o. Finds now.parts spec members by now.position o)
      (λ o h. subst (λ (p : List KeyPart). Finds p spec members by now.position o) join.parts
      (subst (λ (position : model.Position RowPlace). Finds (parts_in spec.primary.formats) spec members by position o) (ap (λ (s : JoinStand). s.position) is)
      (finds-here spec members primary secondaries join.read stood-on join.held.0 join.held.1 join.sequenced sorted by (position_by parts stand key matches) (can-ask by asked) o h)))
      found

  -- the same from the places that a read is given
  pub finds-placed : {E : Type 0} → AreStoodOn spec members
      → IsInOrder primary.falling primary.entries → (by : ReadBy) → IsAskedOf now.parts by → IsStandIn parts stand key
      → (bytes : List ℕ) → bytes ≡ key → (places : List MatchPlace) → ArePlaced matches places → (from : RowPosition)
      → ((spec : JoinSpec) (parts : List KeyPart) (matches : List MatchKept) → IsStandFor spec parts matches → ArePlaced matches places → IsStandIn parts stand bytes
      → IsAt spec from (position_by parts stand bytes matches))
      → (r : Result (Option Row) E)
      → ((position : model.Position RowPlace) → IsAt spec from position → IfOk r (λ o. IsFound spec members o (asked_row by (parts_in spec.primary.formats) spec members position)))
      → IfOk r (λ o. Finds now.parts spec members by now.position o)
  finds-placed stood-on sorted by asked stands bytes same places placed from at r found =
      finds stood-on sorted by asked r
      (found (position_by parts stand key matches)
      (subst (λ (k : List ℕ). IsAt spec from (position_by parts stand k matches)) same
      (at spec parts matches stands-for placed (subst (IsStandIn parts stand) (sym same) stands))))
