-- The records that are tried are those of the level, from a position on or before it, one after another.
use Rattle.std.proofs.Common.{◌≡◌, ℕ, ◌+◌, ◌-◌, ◌<◌, Bool, true, false, not, cond, Option, Some, None, List, [], ◌∷◌, ◌++◌, length, take, map, refl, sym, ◌∙◌, ap, subst, arith}
use Rattle.std.specs.Prelude.{filter, reverse, nat_lt}
use Rattle.std.specs.Option.{option_map}
use Rattle.std.specs.List.{AllByRecursion}
use Rattle.std.specs.Ordering.{nat_cmp, ordering_then, is_eq, is_lt}
use Rattle.std.proofs.lemmas.Bool.{cond-true, lt-ltb}
use Rattle.std.proofs.lemmas.List.{reverse-reverse, length-map, take_at}
use Rattle.std.proofs.lemmas.Map.Text.{is_eq-slice_cmp}
use Rattle.std.proofs.lemmas.Slice.Eq.{bytes_eq-Decides}
use Rattle.key_pages.specs.declared.entries.Entry.{Entry}
use Rattle.key_pages.specs.EntryList.{EntryList}
use Rattle.key_pages.specs.Order.{key_cmp, IsInOrder}
use Rattle.member_slots.specs.Members.{NumberedMembers, member_of}
use Rattle.file_model.specs.declared.joins.Secondary.{Secondary}
use Rattle.file_model.specs.KeyOrder.{KeyValue, compare_key_values, key_value}
use Rattle.file_model.specs.Joins.{Match, NoRecord, RecordAt, Matched, JoinRow, image_in, compare_matches, matches_of, or_missing, secondary_path}
use Rattle.access_path.proofs.FitLemmas.{Bytes}
use Rattle.join_rows.specs.Levels.{below, isnt_before, isnt_after}
use Rattle.join_rows.specs.NextRow.{match_of, level_of}
use Rattle.join_rows.specs.Numbers.{image_at, matched_number, entry_in_path}
use Rattle.join_rows.specs.Places.{IsPathOf, AreJoinable, IsSequence, IsMatchOf, key_from, number_from, sequence_bytes}
use Rattle.join_rows.specs.Places as places
use Rattle.join_rows.specs.declared.positions.MatchPlace.{MatchPlace}
use Rattle.join_rows.specs.declared.positions.MatchPlace.TheVariants.{Missing, Record}
use Rattle.join_rows.specs.Reading.{IsPlaceOf, IsLeft, place_in, rest_in}
use Rattle.join_rows.specs.Search.{begins_with, is_match_after, is_match_before, next_match, prior_match, last_match}
use Rattle.join_rows.specs.Trials.{number_of, missing, missing_from, record_or_missing, first_from, last_until, last_or_missing, first_trial, next_number, key_in, found_match, next_trial, matches_by, all_behind, trials_from, is_at, IsBegun, BeginsKey}
use Rattle.join_rows.specs.WantedBytes.{wanted_bytes}
use Rattle.join_rows.proofs.LevelLemmas.{filter-reverse, map-reverse}
use Rattle.join_rows.proofs.WalkLemmas.{all-reverse, find-none}
use Rattle.join_rows.proofs.SearchLemmas.{matches-from}
use Rattle.join_rows.proofs.JoinedLemmas.{filter-always, map-map, none-joined, all-joined, joined-from, joined-until, order-of}
use Rattle.join_rows.proofs.BackLemmas.{find-good, both-true, IsFirst, matches-back, still-before, IsOwn, entries-first}

-- ---- lists

some-nil : {A B : Type 0} (x : A) (xs : List A) → [] ≡ x ∷ xs → B
some-nil {A = A} x xs h = absurd (let e : ◌≡◌ {A = List A} [] (x ∷ xs) = h in cc)

none-reversed : {A : Type 0} (xs : List A) → reverse xs ≡ [] → xs ≡ []
none-reversed xs h = sym (reverse-reverse xs) ∙ ap reverse h

-- the first place of what is left stands for the first record
abbrev pub IsHead : Secondary → Option MatchPlace → Option (List Match) → Type 0
IsHead file None None = Unit {0}
IsHead file None (Some matches) = ⊥
IsHead file (Some place) None = ⊥
IsHead file (Some place) (Some []) = ⊥
IsHead file (Some place) (Some (m ∷ matches)) = IsPlaceOf file place m

pub head-place : (file : Secondary) (files : List Secondary) (left : Option (List MatchPlace)) (from : Option (List Match)) → IsLeft (file ∷ files) left from → IsHead file (place_in left) from
head-place file files None None is = tt
head-place file files None (Some matches) is = absurd is
head-place file files (Some []) None is = absurd is
head-place file files (Some (place ∷ places)) None is = absurd is
head-place file files (Some []) (Some matches) is = absurd is
head-place file files (Some (place ∷ places)) (Some []) is = absurd is
head-place file files (Some (place ∷ places)) (Some (m ∷ matches)) is = is.0

pub next-number : (rrn : ℕ) → rrn < 4294967295 → next_number rrn ≡ rrn + 1
next-number rrn less = cond-true (nat_lt rrn 4294967295) (rrn + 1) rrn (lt-ltb rrn 4294967295 less)

-- ---- a level, in the order of a read

-- what a read finds of a level from a position on, or before it
abbrev pub level_by : (back keeps_missing : Bool) → NumberedMembers → Secondary → JoinRow → Option (List Match) → List Matched
level_by false keeps_missing members file row from = filter (λ m. isnt_before compare_matches from (match_of m)) (level_of keeps_missing members file row)
level_by true keeps_missing members file row from = reverse (filter (λ m. isnt_after compare_matches from (match_of m)) (level_of keeps_missing members file row))

-- ---- a level without records

abbrev missing_one : Secondary → Matched
missing_one file = record { match = NoRecord; image = file.default }

abbrev missing_level : Bool → Secondary → List Matched
missing_level keeps_missing file = or_missing keeps_missing file []

none-next : (keeps_missing : Bool) (file : Secondary) (from : Option (List Match)) → isnt_before compare_matches from NoRecord ≡ true
    → filter (λ m. isnt_before compare_matches from (match_of m)) (missing_level keeps_missing file) ≡ missing_level keeps_missing file
none-next false file from is = refl
none-next true file from is = cond-true (isnt_before compare_matches from NoRecord) (missing_one file ∷ []) [] is

none-prior : (keeps_missing : Bool) (file : Secondary) (from : Option (List Match)) → isnt_after compare_matches from NoRecord ≡ true
    → reverse (filter (λ m. isnt_after compare_matches from (match_of m)) (missing_level keeps_missing file)) ≡ missing_level keeps_missing file
none-prior false file from is = refl
none-prior true file from is = ap reverse (cond-true (isnt_after compare_matches from NoRecord) (missing_one file ∷ []) [] is)

none-passed : (keeps_missing : Bool) (file : Secondary) (v : KeyValue) (rrn : ℕ) (rest : List Match)
    → filter (λ m. isnt_before compare_matches (Some (RecordAt v rrn ∷ rest)) (match_of m)) (missing_level keeps_missing file) ≡ []
none-passed false file v rrn rest = refl
none-passed true file v rrn rest = refl

-- a missing record stands before the records
prior-missing : (file : Secondary) (place : Option MatchPlace) (from : Option (List Match)) → IsHead file place from → isnt_after compare_matches from NoRecord ≡ true
prior-missing file None None is = refl
prior-missing file None (Some matches) is = absurd is
prior-missing file (Some place) None is = absurd is
prior-missing file (Some place) (Some []) is = absurd is
prior-missing file (Some place) (Some (NoRecord ∷ rest)) is = refl
prior-missing file (Some place) (Some (RecordAt v rrn ∷ rest)) is = refl

-- ---- a level with records

some-kept : (keeps_missing : Bool) (file : Secondary) (test : Matched → Bool) (ms ys : List Matched) (y : Matched) → filter test ms ≡ y ∷ ys → or_missing keeps_missing file ms ≡ ms
some-kept keeps_missing file test [] ys y h = some-nil y ys h
some-kept keeps_missing file test (m ∷ ms) ys y h = refl

some-there : (keeps_missing : Bool) (file : Secondary) (ms ys : List Matched) (y : Matched) → reverse ms ≡ y ∷ ys → or_missing keeps_missing file ms ≡ ms
some-there keeps_missing file [] ys y h = some-nil y ys h
some-there keeps_missing file (m ∷ ms) ys y h = refl

from-record : (keeps_missing : Bool) (file : Secondary) (ms : List Matched) (v : KeyValue) (rrn : ℕ) (rest : List Match)
    → filter (λ m. isnt_before compare_matches (Some (RecordAt v rrn ∷ rest)) (match_of m)) (or_missing keeps_missing file ms)
    ≡ filter (λ m. isnt_before compare_matches (Some (RecordAt v rrn ∷ rest)) (match_of m)) ms
from-record keeps_missing file [] v rrn rest = none-passed keeps_missing file v rrn rest
from-record keeps_missing file (m ∷ ms) v rrn rest = refl

-- all records stand past a missing one
isnt-before-missing : (k : Match) → not (is_lt (compare_matches k NoRecord)) ≡ true
isnt-before-missing NoRecord = refl
isnt-before-missing (RecordAt v rrn) = refl

all-from-missing : (rest : List Match) (ms : List Matched) → filter (λ m. isnt_before compare_matches (Some (NoRecord ∷ rest)) (match_of m)) ms ≡ ms
all-from-missing rest [] = refl
all-from-missing rest (m ∷ ms) =
    let others : List Matched = filter (λ m. isnt_before compare_matches (Some (NoRecord ∷ rest)) (match_of m)) ms in
    cond-true (not (is_lt (compare_matches m.match NoRecord))) (m ∷ others) others (isnt-before-missing m.match) ∙ ap (λ w. m ∷ w) (all-from-missing rest ms)

module _ (file : Secondary) (members : NumberedMembers) (Q : List ℕ → Type 0) (list : EntryList) (wanted : Option (List ℕ)) where
  abbrev pub shown : Option Entry → Matched
  shown trial = matched_number file members (number_of trial)

  abbrev shows : Entry → Matched
  shows entry = matched_number file members (Some entry.rrn)

  none-before-missing : (rest : List Match) (entries : List Entry) → filter (λ m. isnt_after compare_matches (Some (NoRecord ∷ rest)) (match_of m)) (map shows entries) ≡ []
  none-before-missing rest [] = refl
  none-before-missing rest (e ∷ entries) = none-before-missing rest entries

  -- a record that is tried is one of the file, and its key begins with the bytes that are wanted
  abbrev pub IsTried : Option (List ℕ) → Option Entry → Type 0
  IsTried wanted' None = Unit {0}
  IsTried None (Some entry) = ⊥
  IsTried (Some part) (Some entry) = IsOwn file members Q entry × (begins_with part entry ≡ true)

  abbrev pub IsTrial : Option (Option Entry) → Type 0
  IsTrial None = Unit {0}
  IsTrial (Some trial) = IsTried wanted trial

  -- what is tried from a trial on is the level
  pub record IsStart (back : Bool) (at : Option (Option Entry)) (ms : List Matched) : Type 0 where
    pub level : ms ≡ map shown (trials_from back wanted at list)
    pub valid : IsTrial at

  all-none : (back : Bool) (o : Option (List ℕ)) → all_behind back o None list ≡ []
  all-none back None = refl
  all-none back (Some part) = refl

  tried-none : (o : Option (List ℕ)) → IsTried o None
  tried-none None = tt
  tried-none (Some part) = tt

  missing-start : (back keeps_missing : Bool) (ms : List Matched) → ms ≡ missing_level keeps_missing file → IsStart back (missing keeps_missing) ms
  missing-start back false ms is = record { level = is; valid = tt }
  missing-start back true ms is = record { level = is ∙ ap (λ ts. shown None ∷ map shown ts) (sym (all-none back wanted)); valid = tried-none wanted }

  none-start : (back : Bool) (ms : List Matched) → ms ≡ [] → IsStart back None ms
  none-start back ms is = record { level = is; valid = tt }

  module _ (is_path : IsPathOf list (secondary_path file) members) (good : AreJoinable file members) (sorted : IsInOrder list.falling list.entries)
      (own : AllByRecursion (IsOwn file members Q) list.entries) where
    first : AllByRecursion IsFirst list.entries
    first = entries-first file members Q list.entries own

    own-back : AllByRecursion (IsOwn file members Q) (reverse list.entries)
    own-back = all-reverse (IsOwn file members Q) list.entries own

    module _ (part : List ℕ) (want : wanted ≡ Some part) where
      mapped : (entries : List Entry) → map shows entries ≡ map shown (map Some entries)
      mapped entries = sym (map-map shown (λ (e : Entry). Some e) entries)

      found-start : (back : Bool) (key : List ℕ) (rrn : ℕ) (ms : List Matched) → ms ≡ map shows (matches_by back part key rrn list)
          → IsStart back (option_map Some (found_match back part key rrn list)) ms
      found-start false key rrn ms is = by (next_match list.falling part key rrn list.entries) refl
        where
          by : (o : Option Entry) → next_match list.falling part key rrn list.entries ≡ o → IsStart false (option_map Some o) ms
          by None none = none-start false ms (is ∙ ap (map shows) (find-none (is_match_after list.falling part key rrn) list.entries none))
          by (Some x) some =
              let its = find-good (IsOwn file members Q) (is_match_after list.falling part key rrn) list.entries x own some in record {
                level = is ∙ ap (map shows) (matches-from list.falling part key rrn list.entries x sorted first some)
                    ∙ ap (λ ms'. shows x ∷ ms') (mapped (matches_by false part x.key x.rrn list))
                    ∙ ap (λ o. map shown (trials_from false o (Some (Some x)) list)) (sym want);
                valid = subst (λ (o : Option (List ℕ)). IsTried o (Some x)) (sym want) (its.0, (both-true (begins_with part x) _ its.1).0);
              }
      found-start true key rrn ms is = by (prior_match list.falling part key rrn list.entries) refl
        where
          by : (o : Option Entry) → prior_match list.falling part key rrn list.entries ≡ o → IsStart true (option_map Some o) ms
          by None none = none-start true ms (is ∙ ap (map shows) (find-none (is_match_before list.falling part key rrn) (reverse list.entries) none))
          by (Some x) some =
              let its = find-good (IsOwn file members Q) (is_match_before list.falling part key rrn) (reverse list.entries) x own-back some in record {
                level = is ∙ ap (map shows)
                    (matches-back list.falling part (is_match_before list.falling part key rrn) (still-before list.falling part key rrn) list.entries x sorted first some)
                    ∙ ap (λ ms'. shows x ∷ ms') (mapped (matches_by true part x.key x.rrn list))
                    ∙ ap (λ o. map shown (trials_from true o (Some (Some x)) list)) (sym want);
                valid = subst (λ (o : Option (List ℕ)). IsTried o (Some x)) (sym want) (its.0, (both-true (begins_with part x) _ its.1).0);
              }

      last-start : (x : Entry) (ms : List Matched) → last_match part list.entries ≡ Some x → ms ≡ map shows (filter (begins_with part) (reverse list.entries)) → IsStart true (Some (Some x)) ms
      last-start x ms some is =
          let its = find-good (IsOwn file members Q) (begins_with part) (reverse list.entries) x own-back some in record {
            level = is ∙ ap (map shows) (matches-back list.falling part (begins_with part) (λ a b less h. refl) list.entries x sorted first some)
                ∙ ap (λ ms'. shows x ∷ ms') (mapped (matches_by true part x.key x.rrn list))
                ∙ ap (λ o. map shown (trials_from true o (Some (Some x)) list)) (sym want);
            valid = subst (λ (o : Option (List ℕ)). IsTried o (Some x)) (sym want) its;
          }

    -- ---- the first

    missing-valid : (keeps_missing : Bool) → IsTrial (missing keeps_missing)
    missing-valid keeps_missing = (missing-start false keeps_missing (missing_level keeps_missing file) refl).valid

    module _ (part : List ℕ) (want : wanted ≡ Some part) (keeps_missing : Bool) (key : List ℕ) where
      found-valid : (back : Bool) (key' : List ℕ) (rrn : ℕ) → IsTrial (option_map Some (found_match back part key' rrn list))
      found-valid back key' rrn = (found-start part want back key' rrn (map shows (matches_by back part key' rrn list)) refl).valid

      whole-valid : (o : Option Entry) → next_match list.falling part part 0 list.entries ≡ o → IsTrial (record_or_missing keeps_missing o)
      whole-valid None none = missing-valid keeps_missing
      whole-valid (Some x) some = subst (λ (o : Option Entry). IsTrial (option_map Some o)) some (found-valid false part 0)

      last-valid : (o : Option Entry) → last_match part list.entries ≡ o → (place : Option MatchPlace) → IsTrial (last_or_missing keeps_missing o part place key list)
      last-valid None none place = missing-valid keeps_missing
      last-valid (Some x) some None = (last-start part want x (map shows (filter (begins_with part) (reverse list.entries))) some refl).valid
      last-valid (Some x) some (Some Missing) = tt
      last-valid (Some x) some (Some (Record sequence rrn)) = found-valid true key (next_number rrn)

    -- it is of the file, wherever the read begins
    pub first-valid : (back keeps_missing : Bool) (place : Option MatchPlace) (key : List ℕ) → IsTrial (first_trial back keeps_missing wanted place key list)
    first-valid back keeps_missing place key = by back wanted refl place
      where
        by : (back' : Bool) (o : Option (List ℕ)) → wanted ≡ o → (place' : Option MatchPlace) → IsTrial (first_trial back' keeps_missing o place' key list)
        by false None none None = missing-valid keeps_missing
        by false None none (Some Missing) = missing-valid keeps_missing
        by false None none (Some (Record sequence rrn)) = tt
        by true None none place' = missing-valid keeps_missing
        by false (Some part) some None = whole-valid part some keeps_missing key (next_match list.falling part part 0 list.entries) refl
        by false (Some part) some (Some Missing) = whole-valid part some keeps_missing key (next_match list.falling part part 0 list.entries) refl
        by false (Some part) some (Some (Record sequence rrn)) = found-valid part some keeps_missing key false key (rrn - 1)
        by true (Some part) some place' = last-valid part some keeps_missing key (last_match part list.entries) refl place'

    module _ (row : JoinRow) (bytes : Bytes (image_in file.from row.images)) (keeps_missing : Bool) where
      abbrev ms : List Matched
      ms = matches_of file members row

      level-none : ms ≡ [] → level_of keeps_missing members file row ≡ missing_level keeps_missing file
      level-none none = ap (or_missing keeps_missing file) none

      -- no record can be joined
      unwanted-next : (place : Option MatchPlace) (from : Option (List Match)) → IsHead file place from → ms ≡ []
          → IsStart false (missing_from keeps_missing place) (level_by false keeps_missing members file row from)
      unwanted-next None None is none =
          missing-start false keeps_missing _ (ap (filter (λ m. isnt_before compare_matches None (match_of m))) (level-none none) ∙ none-next keeps_missing file None refl)
      unwanted-next None (Some matches) is none = absurd is
      unwanted-next (Some place) None is none = absurd is
      unwanted-next (Some place) (Some []) is none = absurd is
      unwanted-next (Some Missing) (Some (NoRecord ∷ rest)) is none =
          missing-start false keeps_missing _
          (ap (filter (λ m. isnt_before compare_matches (Some (NoRecord ∷ rest)) (match_of m))) (level-none none) ∙ none-next keeps_missing file (Some (NoRecord ∷ rest)) refl)
      unwanted-next (Some Missing) (Some (RecordAt v rrn ∷ rest)) is none = absurd is
      unwanted-next (Some (Record sequence number)) (Some (NoRecord ∷ rest)) is none = absurd is
      unwanted-next (Some (Record sequence number)) (Some (RecordAt v rrn ∷ rest)) is none =
          none-start false _ (ap (filter (λ m. isnt_before compare_matches (Some (RecordAt v rrn ∷ rest)) (match_of m))) (level-none none) ∙ none-passed keeps_missing file v rrn rest)

      unwanted-prior : (place : Option MatchPlace) (from : Option (List Match)) → IsHead file place from → ms ≡ []
          → IsStart true (missing keeps_missing) (level_by true keeps_missing members file row from)
      unwanted-prior place from is none =
          missing-start true keeps_missing _
          (ap (λ l. reverse (filter (λ m. isnt_after compare_matches from (match_of m)) l)) (level-none none) ∙ none-prior keeps_missing file from (prior-missing file place from is))

      module _ (part : List ℕ) (want : wanted ≡ Some part) (some : wanted_bytes file.pairs (image_in file.from row.images) ≡ Some part) where
        -- those from a position on
        from-place : (from : Option (List Match)) → places.IsFrom file from
            → filter (λ m. isnt_before compare_matches from (match_of m)) ms ≡ map shows (matches_by false part (key_from file part from) (number_from from) list)
        from-place from stands =
            joined-from file members row good bytes part some list is_path from stands
            ∙ ap (λ f. map shows (filter (is_match_after f part (key_from file part from) (number_from from)) list.entries)) (sym is_path.falling)

        -- those from the first on
        whole-next : (from : Option (List Match)) → isnt_before compare_matches from NoRecord ≡ true → key_from file part from ≡ part → number_from from ≡ 0 → places.IsFrom file from
            → filter (λ m. isnt_before compare_matches from (match_of m)) ms ≡ ms
            → IsStart false (record_or_missing keeps_missing (next_match list.falling part part 0 list.entries)) (level_by false keeps_missing members file row from)
        whole-next from first' same zero stands all = by (next_match list.falling part part 0 list.entries) refl
          where
            there : filter (λ m. isnt_before compare_matches from (match_of m)) ms ≡ map shows (matches_by false part part 0 list)
            there =
                from-place from stands
                ∙ ap (λ k. map shows (matches_by false part k (number_from from) list)) same
                ∙ ap (λ n. map shows (matches_by false part part n list)) zero

            by : (o : Option Entry) → next_match list.falling part part 0 list.entries ≡ o → IsStart false (record_or_missing keeps_missing o) (level_by false keeps_missing members file row from)
            by None none =
                missing-start false keeps_missing _
                (ap (filter (λ m. isnt_before compare_matches from (match_of m)))
                (level-none (sym all ∙ there ∙ ap (map shows) (find-none (is_match_after list.falling part part 0) list.entries none)))
                ∙ none-next keeps_missing file from first')
            by (Some x) found =
                let start = found-start part want false part 0 (filter (λ m. isnt_before compare_matches from (match_of m)) ms) there in
                let begun : IsStart false (Some (Some x)) (filter (λ m. isnt_before compare_matches from (match_of m)) ms) =
                subst (λ (o : Option Entry). IsStart false (option_map Some o) (filter (λ m. isnt_before compare_matches from (match_of m)) ms)) found start in
                subst (IsStart false (Some (Some x)))
                (sym (ap (filter (λ m. isnt_before compare_matches from (match_of m)))
                (some-kept keeps_missing file (λ m. isnt_before compare_matches from (match_of m)) ms (map shown (all_behind false wanted (Some x) list)) (shown (Some x)) begun.level)))
                begun

        next-start : (place : Option MatchPlace) (from : Option (List Match)) → IsHead file place from
            → IsStart false (first_from keeps_missing part place (key_in (Some part) place) list) (level_by false keeps_missing members file row from)
        next-start None None is = whole-next None refl refl refl tt (filter-always ms)
        next-start None (Some matches) is = absurd is
        next-start (Some place) None is = absurd is
        next-start (Some place) (Some []) is = absurd is
        next-start (Some Missing) (Some (NoRecord ∷ rest)) is = whole-next (Some (NoRecord ∷ rest)) refl refl refl tt (all-from-missing rest ms)
        next-start (Some Missing) (Some (RecordAt v rrn ∷ rest)) is = absurd is
        next-start (Some (Record sequence number)) (Some (NoRecord ∷ rest)) is = absurd is
        next-start (Some (Record sequence number)) (Some (RecordAt v rrn ∷ rest)) is =
            subst (IsStart false (option_map Some (next_match list.falling part (part ++ sequence.now) (number - 1) list.entries)))
            (sym (from-record keeps_missing file ms v rrn rest))
            (found-start part want false (part ++ sequence.now) (number - 1) (filter (λ m. isnt_before compare_matches (Some (RecordAt v rrn ∷ rest)) (match_of m)) ms)
            (from-place (Some (RecordAt v rrn ∷ rest)) is.3
            ∙ ap (λ w. map shows (matches_by false part (part ++ w) (rrn - 1) list)) (sym is.0)
            ∙ ap (λ n. map shows (matches_by false part (part ++ sequence.now) (n - 1) list)) (sym is.1)))

        -- all of them, from the last
        all-back : reverse ms ≡ map shows (filter (begins_with part) (reverse list.entries))
        all-back =
            ap reverse (all-joined file members row good bytes part some list is_path)
            ∙ map-reverse shows (filter (begins_with part) list.entries)
            ∙ ap (map shows) (sym (filter-reverse (begins_with part) list.entries))

        until-place : (v : KeyValue) (rrn : ℕ) (rest : List Match) → IsSequence file v
            → reverse (filter (λ m. isnt_after compare_matches (Some (RecordAt v rrn ∷ rest)) (match_of m)) ms)
            ≡ map shows (matches_by true part (part ++ sequence_bytes file.sequence v) (rrn + 1) list)
        until-place v rrn rest stands =
            ap reverse (joined-until file members row good bytes part some list is_path v rrn rest stands)
            ∙ map-reverse shows (filter (is_match_before false part (part ++ sequence_bytes file.sequence v) (rrn + 1)) list.entries)
            ∙ ap (map shows) (sym (filter-reverse (is_match_before false part (part ++ sequence_bytes file.sequence v) (rrn + 1)) list.entries))
            ∙ ap (λ f. map shows (filter (is_match_before f part (part ++ sequence_bytes file.sequence v) (rrn + 1)) (reverse list.entries))) (sym is_path.falling)

        prior-start : (place : Option MatchPlace) (from : Option (List Match)) → IsHead file place from
            → IsStart true (last_or_missing keeps_missing (last_match part list.entries) part place (key_in (Some part) place) list) (level_by true keeps_missing members file row from)
        prior-start place from is = by (last_match part list.entries) refl
          where
            at-last : (x : Entry) → last_match part list.entries ≡ Some x → or_missing keeps_missing file ms ≡ ms
            at-last x found =
                let start = last-start part want x (reverse ms) found all-back in
                some-there keeps_missing file ms (map shown (all_behind true wanted (Some x) list)) (shown (Some x)) start.level

            behind : (x : Entry) → last_match part list.entries ≡ Some x → (place' : Option MatchPlace) (from' : Option (List Match)) → IsHead file place' from'
                → IsStart true (last_until x part place' (key_in (Some part) place') list) (reverse (filter (λ m. isnt_after compare_matches from' (match_of m)) ms))
            behind x found None None is' = subst (λ (l : List Matched). IsStart true (Some (Some x)) (reverse l)) (sym (filter-always ms)) (last-start part want x (reverse ms) found all-back)
            behind x found None (Some matches) is' = absurd is'
            behind x found (Some place') None is' = absurd is'
            behind x found (Some place') (Some []) is' = absurd is'
            behind x found (Some Missing) (Some (NoRecord ∷ rest)) is' =
                none-start true _
                (ap (λ l. reverse (filter (λ m. isnt_after compare_matches (Some (NoRecord ∷ rest)) (match_of m)) l)) (all-joined file members row good bytes part some list is_path)
                ∙ ap reverse (none-before-missing rest (filter (begins_with part) list.entries)))
            behind x found (Some Missing) (Some (RecordAt v rrn ∷ rest)) is' = absurd is'
            behind x found (Some (Record sequence number)) (Some (NoRecord ∷ rest)) is' = absurd is'
            behind x found (Some (Record sequence number)) (Some (RecordAt v rrn ∷ rest)) is' =
                found-start part want true (part ++ sequence.now) (next_number number) (reverse (filter (λ m. isnt_after compare_matches (Some (RecordAt v rrn ∷ rest)) (match_of m)) ms))
                (until-place v rrn rest is'.3.0
                ∙ ap (λ w. map shows (matches_by true part (part ++ w) (rrn + 1) list)) (sym is'.0)
                ∙ ap (λ n. map shows (matches_by true part (part ++ sequence.now) n list)) (sym (ap next_number is'.1 ∙ next-number rrn is'.2)))

            by : (o : Option Entry) → last_match part list.entries ≡ o
                → IsStart true (last_or_missing keeps_missing o part place (key_in (Some part) place) list) (level_by true keeps_missing members file row from)
            by None none =
                unwanted-prior place from is
                (none-reversed ms (all-back ∙ ap (map shows) (find-none (begins_with part) (reverse list.entries) none)))
            by (Some x) found =
                subst (λ (l : List Matched). IsStart true (last_until x part place (key_in (Some part) place) list) (reverse (filter (λ m. isnt_after compare_matches from (match_of m)) l)))
                (sym (at-last x found)) (behind x found place from is)

      -- what is tried first is the level
      pub start : (back : Bool) (place : Option MatchPlace) (from : Option (List Match)) → wanted ≡ wanted_bytes file.pairs (image_in file.from row.images) → IsHead file place from
          → IsStart back (first_trial back keeps_missing wanted place (key_in wanted place) list) (level_by back keeps_missing members file row from)
      start back place from want is = by back wanted refl
        where
          by : (back' : Bool) (o : Option (List ℕ)) → wanted ≡ o
              → IsStart back' (first_trial back' keeps_missing o place (key_in o place) list) (level_by back' keeps_missing members file row from)
          by false None none = unwanted-next place from is (none-joined file members row good bytes (sym want ∙ none))
          by true None none = unwanted-prior place from is (none-joined file members row good bytes (sym want ∙ none))
          by false (Some part) some = next-start part some (sym want ∙ some) place from is
          by true (Some part) some = prior-start part some (sym want ∙ some) place from is

      -- what is left of the position below a trial
      pub left-below : (files : List Secondary) (left : Option (List MatchPlace)) (from : Option (List Match)) → wanted ≡ wanted_bytes file.pairs (image_in file.from row.images)
          → IsLeft (file ∷ files) left from → (trial : Option Entry) → IsTried wanted trial
          → IsLeft files (cond (is_at (place_in left) (key_in wanted (place_in left)) trial) (rest_in left) None) (below compare_matches from (match_of (shown trial)))
      left-below files None None want is trial t = tt
      left-below files None (Some matches) want is trial t = absurd is
      left-below files (Some []) None want is trial t = absurd is
      left-below files (Some (place ∷ places)) None want is trial t = absurd is
      left-below files (Some []) (Some matches) want is trial t = absurd is
      left-below files (Some (place ∷ places)) (Some []) want is trial t = absurd is
      left-below files (Some (Missing ∷ places)) (Some (NoRecord ∷ matches)) want is None t = is.1
      left-below files (Some (Missing ∷ places)) (Some (NoRecord ∷ matches)) want is (Some e) t = tt
      left-below files (Some (Missing ∷ places)) (Some (RecordAt v rrn ∷ matches)) want is trial t = absurd is.0
      left-below files (Some (Record sequence number ∷ places)) (Some (NoRecord ∷ matches)) want is trial t = absurd is.0
      left-below files (Some (Record sequence number ∷ places)) (Some (RecordAt v rrn ∷ matches)) want is None t = tt
      left-below files (Some (Record sequence number ∷ places)) (Some (RecordAt v rrn ∷ matches)) want is (Some e) t = by wanted refl t
        where
          both : (b : Bool) → IsLeft files (cond b (Some places) None) (cond b (Some matches) None)
          both true = is.1
          both false = tt

          by : (o : Option (List ℕ)) → wanted ≡ o → IsTried o (Some e)
              → IsLeft files (cond (is_at (Some (Record sequence number)) (key_in o (Some (Record sequence number))) (Some e)) (Some places) None)
              (cond (is_eq (compare_matches (match_of (shown (Some e))) (RecordAt v rrn))) (Some matches) None)
          by None none t' = absurd t'
          by (Some part) some t' =
              let its = t'.0 in
              let number-of : e.rrn ≡ its.pair.0 = ap (λ (x : Entry). x.rrn) its.is in
              let record-of : its.pair.1 ≡ image_at (member_of file.member members) e.rrn = sym its.image ∙ ap (image_at (member_of file.member members)) (sym number-of) in
              let keys : key_cmp e.key (part ++ sequence.now) ≡ compare_key_values (key_value file.sequence (image_at (member_of file.member members) e.rrn)) v =
              ap (λ (x : Entry). key_cmp x.key (part ++ sequence.now)) its.is
              ∙ ap (λ w. key_cmp (entry_in_path file its.pair).key (part ++ w)) is.0.0
              ∙ order-of file members row good bytes part (sym want ∙ some) its.pair its.is_record (ap (begins_with part) (sym its.is) ∙ t'.1) v is.0.3.0
              ∙ ap (λ w. compare_key_values (key_value file.sequence w) v) record-of in
              let same : is_eq (ordering_then (key_cmp e.key (part ++ sequence.now)) (nat_cmp e.rrn number)) ≡ is_eq (compare_matches (match_of (shown (Some e))) (RecordAt v rrn)) =
              ap (λ o. is_eq (ordering_then o (nat_cmp e.rrn number))) keys
              ∙ ap (λ n. is_eq (ordering_then (compare_key_values (key_value file.sequence (image_at (member_of file.member members) e.rrn)) v) (nat_cmp e.rrn n))) is.0.1 in
              subst (λ b. IsLeft files (cond (is_eq (ordering_then (key_cmp e.key (part ++ sequence.now)) (nat_cmp e.rrn number))) (Some places) None) (cond b (Some matches) None)) same
              (both (is_eq (ordering_then (key_cmp e.key (part ++ sequence.now)) (nat_cmp e.rrn number))))

    -- ---- those after it

    pub next-start-of : (back : Bool) (trial : Option Entry) → IsTried wanted trial → IsStart back (next_trial back wanted trial list) (map shown (all_behind back wanted trial list))
    next-start-of back trial t = by wanted refl trial t
      where
        by : (o : Option (List ℕ)) → wanted ≡ o → (trial' : Option Entry) → IsTried o trial' → IsStart back (next_trial back o trial' list) (map shown (all_behind back o trial' list))
        by None none None t' = none-start back _ refl
        by None none (Some e) t' = absurd t'
        by (Some part) some None t' = none-start back _ refl
        by (Some part) some (Some e) t' = found-start part some back e.key e.rrn _ (sym (mapped part some (matches_by back part e.key e.rrn list)))

    -- there are fewer of them
    pub fewer : (back : Bool) (trial : Option Entry) → IsTried wanted trial
        → length (trials_from back wanted (next_trial back wanted trial list) list) < length (trials_from back wanted (Some trial) list)
    fewer back trial t =
        let start' = next-start-of back trial t in
        let same : length (map shown (all_behind back wanted trial list)) ≡ length (map shown (trials_from back wanted (next_trial back wanted trial list) list)) = ap length start'.level in
        let one : length (map shown (all_behind back wanted trial list)) ≡ length (all_behind back wanted trial list) = length-map (all_behind back wanted trial list) shown in
        let two : length (map shown (trials_from back wanted (next_trial back wanted trial list) list)) ≡ length (trials_from back wanted (next_trial back wanted trial list) list) =
        length-map (trials_from back wanted (next_trial back wanted trial list) list) shown in
        omega arith

  -- the image of a trial is good for what the records and the defaults are
  pub good-image : Q file.default → (trial : Option Entry) → IsTried wanted trial → Q (shown trial).image
  good-image default None t = default
  good-image default (Some e) t = by wanted t
    where
      by : (o : Option (List ℕ)) → IsTried o (Some e) → Q (image_at (member_of file.member members) e.rrn)
      by None t' = absurd t'
      by (Some part) t' = subst Q (sym t'.0.image ∙ ap (image_at (member_of file.member members)) (sym (ap (λ (x : Entry). x.rrn) t'.0.is))) t'.0.good

  -- its key begins with the bytes that are wanted
  pub begun : (trial : Option Entry) → IsTried wanted trial → IsBegun wanted trial
  begun trial t = by wanted trial t
    where
      by : (o : Option (List ℕ)) (trial' : Option Entry) → IsTried o trial' → IsBegun o trial'
      by None trial' t' = tt
      by (Some part) None t' = tt
      by (Some part) (Some e) t' = (bytes_eq-Decides (take (length part) e.key) part).0 (sym (is_eq-slice_cmp (take (length part) e.key) part) ∙ t'.1)

-- the key at which the records of a place stand begins with them
pub begins-key : (wanted : Option (List ℕ)) (place : Option MatchPlace) → BeginsKey wanted place (key_in wanted place)
begins-key None place = tt
begins-key (Some part) None = tt
begins-key (Some part) (Some Missing) = tt
begins-key (Some part) (Some (Record sequence rrn)) = take_at part sequence.now (length part) refl
