-- The records that a row is joined to are entries of the secondary's path: all of them, those from a position on, and those up to a record.
use Rattle.std.proofs.Common.{◌≡◌, ℕ, ◌+◌, ◌≤◌, ◌<◌, Bool, true, false, cond, ◌&&◌, Option, Some, None, is_some, List, [], ◌∷◌, ◌++◌, map, refl, sym, ◌∙◌, ap}
use Rattle.std.specs.Prelude.{filter}
use Rattle.std.specs.Option.{option_map}
use Rattle.std.specs.List.{AllByRecursion}
use Rattle.std.proofs.lemmas.Bool.{cond-true, cond-false}
use Rattle.std.proofs.lemmas.List.Elements.{recursion_from_All}
use Rattle.field_types.specs.declared.values.Value.{Value}
use Rattle.key_spec.specs.declared.Ties.TheVariants.{Rising}
use Rattle.member_slots.specs.declared.slot.Slot.TheVariants.{Live}
use Rattle.member_slots.specs.Member.{records, slot_at}
use Rattle.member_slots.specs.Members.{NumberedMembers, member_of}
use Rattle.key_pages.specs.declared.entries.Entry.{Entry}
use Rattle.key_pages.specs.EntryList.{EntryList}
use Rattle.key_pages.specs.Order.{key_cmp}
use Rattle.file_model.specs.declared.joins.Secondary.{Secondary}
use Rattle.access_path.specs.PathBytes.{in_bytes}
use Rattle.file_model.specs.KeyOrder.{KeyValue, compare_key_values, key_value}
use Rattle.file_model.specs.Joins.{Match, RecordAt, Matched, JoinRow, image_in, matched, compare_matches, matches_of, secondary_path}
use Rattle.file_model.specs.Paths.{compare_entries, entry_of}
use Rattle.file_model.specs.Views.{field_value}
use Rattle.file_model.proofs.PathLemmas.{weaker, all-filter}
use Rattle.access_path.specs.KeyFields.{AreBytes}
use Rattle.access_path.proofs.FitLemmas.{Bytes}
use Rattle.access_path.proofs.OrderedLemmas.{all-in_order}
use Rattle.join_rows.specs.Levels.{isnt_before, isnt_after}
use Rattle.join_rows.specs.NextRow.{match_of}
use Rattle.join_rows.specs.Wanted.{wanted, has_wanted}
use Rattle.join_rows.specs.WantedBytes.{wanted_bytes, values_bytes}
use Rattle.join_rows.specs.Matches.{format_of, joined_key, records_in_path, HasJoined}
use Rattle.join_rows.specs.Numbers.{image_of, image_at, matched_number, entry_in_path}
use Rattle.join_rows.specs.Places.{IsPathOf, sequence_bytes, IsSequence, AreJoinable, key_from, number_from, IsFrom}
use Rattle.join_rows.specs.Search.{begins_with, is_match_after, is_match_before}
use Rattle.join_rows.proofs.OptionLemmas.{none-some, some-none, some-same}
use Rattle.join_rows.proofs.SoughtLemmas.{all-records, AreSought, wanted-values, wanted-sought}
use Rattle.join_rows.proofs.PlaceLemmas.{IsRecord, joined-test, test-same, until-same, key-order}
use Rattle.join_rows.proofs.MatchLemmas.{IsThere, joins, joined-wanted, path-records, matches-records}

-- ---- lists

and-true : (b : Bool) → (b && true) ≡ b
and-true true = refl
and-true false = refl

pub filter-always : {A : Type 0} (xs : List A) → filter (λ x. true) xs ≡ xs
filter-always [] = refl
filter-always (x ∷ xs) = ap (λ w. x ∷ w) (filter-always xs)

pub filter-map : {A B : Type 0} (test : B → Bool) (f : A → B) (xs : List A) → filter test (map f xs) ≡ map f (filter (λ x. test (f x)) xs)
filter-map test f [] = refl
filter-map test f (x ∷ xs) = by (test (f x)) refl (filter-map test f xs)
  where
    by : (b : Bool) → test (f x) ≡ b → filter test (map f xs) ≡ map f (filter (λ y. test (f y)) xs) → filter test (f x ∷ map f xs) ≡ map f (filter (λ y. test (f y)) (x ∷ xs))
    by true is rest =
        cond-true (test (f x)) (f x ∷ filter test (map f xs)) (filter test (map f xs)) is
        ∙ ap (λ w. f x ∷ w) rest
        ∙ sym (ap (map f) (cond-true (test (f x)) (x ∷ filter (λ y. test (f y)) xs) (filter (λ y. test (f y)) xs) is))
    by false is rest =
        cond-false (test (f x)) (f x ∷ filter test (map f xs)) (filter test (map f xs)) is
        ∙ rest
        ∙ sym (ap (map f) (cond-false (test (f x)) (x ∷ filter (λ y. test (f y)) xs) (filter (λ y. test (f y)) xs) is))

filter-twice : {A : Type 0} (p q : A → Bool) (xs : List A) → filter q (filter p xs) ≡ filter (λ x. p x && q x) xs
filter-twice p q [] = refl
filter-twice p q (x ∷ xs) = by (p x) refl (filter-twice p q xs)
  where
    by : (b : Bool) → p x ≡ b → filter q (filter p xs) ≡ filter (λ y. p y && q y) xs → filter q (filter p (x ∷ xs)) ≡ filter (λ y. p y && q y) (x ∷ xs)
    by true is rest =
        ap (filter q) (cond-true (p x) (x ∷ filter p xs) (filter p xs) is)
        ∙ ap (λ w. cond (q x) (x ∷ w) w) rest
        ∙ sym (ap (λ (b : Bool). cond (b && q x) (x ∷ filter (λ y. p y && q y) xs) (filter (λ y. p y && q y) xs)) is)
    by false is rest =
        ap (filter q) (cond-false (p x) (x ∷ filter p xs) (filter p xs) is)
        ∙ rest
        ∙ sym (ap (λ (b : Bool). cond (b && q x) (x ∷ filter (λ y. p y && q y) xs) (filter (λ y. p y && q y) xs)) is)

pub filter-same : {A : Type 0} (P : A → Type 0) (test other : A → Bool) → ((x : A) → P x → test x ≡ other x) → (xs : List A) → AllByRecursion P xs → filter test xs ≡ filter other xs
filter-same P test other same [] all = refl
filter-same P test other same (x ∷ xs) all =
    ap (λ (b : Bool). cond b (x ∷ filter test xs) (filter test xs)) (same x all.0)
    ∙ ap (λ w. cond (other x) (x ∷ w) w) (filter-same P test other same xs all.1)

map-same : {A B : Type 0} (P : A → Type 0) (f g : A → B) → ((x : A) → P x → f x ≡ g x) → (xs : List A) → AllByRecursion P xs → map f xs ≡ map g xs
map-same P f g same [] all = refl
map-same P f g same (x ∷ xs) all = ap (λ y. y ∷ map f xs) (same x all.0) ∙ ap (λ w. g x ∷ w) (map-same P f g same xs all.1)

pub map-map : {A B C : Type 0} (g : B → C) (f : A → B) (xs : List A) → map g (map f xs) ≡ map (λ x. g (f x)) xs
map-map g f [] = refl
map-map g f (x ∷ xs) = ap (λ w. g (f x) ∷ w) (map-map g f xs)

filter-never : {A : Type 0} (P : A → Type 0) (test : A → Bool) → ((x : A) → P x → test x ≡ false) → (xs : List A) → AllByRecursion P xs → filter test xs ≡ []
filter-never P test never [] all = refl
filter-never P test never (x ∷ xs) all = cond-false (test x) (x ∷ filter test xs) (filter test xs) (never x all.0) ∙ filter-never P test never xs all.1

pub both-all : {A : Type 0} (P Q R : A → Type 0) → ((x : A) → P x → Q x → R x) → (xs : List A) → AllByRecursion P xs → AllByRecursion Q xs → AllByRecursion R xs
both-all P Q R so [] all also = tt
both-all P Q R so (x ∷ xs) all also = (so x all.0 also.0, both-all P Q R so xs all.1 also.1)

-- ---- all records of the file

abbrev IsKept : Secondary → NumberedMembers → ℕ × List ℕ → Type 0
IsKept file members pair = IsRecord file pair × (image_at (member_of file.member members) pair.0 ≡ pair.1)

all-kept : (file : Secondary) (members : NumberedMembers) → AreJoinable file members → AllByRecursion (IsKept file members) (records (member_of file.member members))
all-kept file members good =
    let all : List (ℕ × List ℕ) = records (member_of file.member members) in
    both-all (λ pair. IsThere file pair.1 × Bytes pair.1) (λ pair. (1 ≤ pair.0) × (slot_at (member_of file.member members) pair.0 ≡ Some (Live pair.1))) (IsKept file members)
    (λ pair one two. (record { there = one.0; bytes = one.1; above = two.0 }, ap image_of two.1)) all
    (both-all (λ pair. HasJoined file pair.1) (λ pair. AreBytes pair.1) (λ pair. IsThere file pair.1 × Bytes pair.1)
    (λ pair one two. (recursion_from_All (λ p. is_some (field_value pair.1 p.to) ≡ true) file.pairs one, recursion_from_All (λ b. b < 256) pair.1 two)) all
    (recursion_from_All (λ pair. HasJoined file pair.1) all good.joined) (recursion_from_All (λ pair. AreBytes pair.1) all good.bytes))
    (all-records (member_of file.member members))

pub path-kept : (file : Secondary) (members : NumberedMembers) → AreJoinable file members → AllByRecursion (IsKept file members) (records_in_path file members)
path-kept file members good =
    all-in_order (λ a b. compare_entries Rising (entry_of 0 (format_of file) a) (entry_of 0 (format_of file) b)) (IsKept file members) (records (member_of file.member members)) (all-kept file members good)

pub entries-of-path : (file : Secondary) (members : NumberedMembers) (list : EntryList) → IsPathOf list (secondary_path file) members → list.entries ≡ map (entry_in_path file) (records_in_path file members)
entries-of-path file members list is =
    is.entries ∙ ap (map (in_bytes (secondary_path file).formats)) (path-records file members) ∙ map-map (in_bytes (secondary_path file).formats) (entry_of 0 (format_of file)) (records_in_path file members)

module _ (file : Secondary) (members : NumberedMembers) (row : JoinRow) (good : AreJoinable file members) (bytes : Bytes (image_in file.from row.images)) where
  abbrev image : List ℕ
  image = image_in file.from row.images

  abbrev own : List (ℕ × List ℕ)
  own = records_in_path file members

  matches-own : matches_of file members row ≡ map (matched file) (filter (joins file image) own)
  matches-own =
      matches-records file members row
      (weaker (IsKept file members) (λ pair. IsThere file pair.1) (λ pair kept. kept.0.there) (records (member_of file.member members)) (all-kept file members good))

  value-given : (o : Option (List Value)) → wanted file.pairs image ≡ o → (part : Option (List ℕ)) → wanted_bytes file.pairs image ≡ part → part ≡ option_map (values_bytes file.pairs) o
  value-given o is part also = sym also ∙ wanted-values file.pairs image ∙ ap (option_map (values_bytes file.pairs)) is

  -- no record can be joined
  pub none-joined : wanted_bytes file.pairs image ≡ None → matches_of file members row ≡ []
  none-joined none = matches-own ∙ ap (map (matched file)) (by (wanted file.pairs image) refl)
    where
      by : (o : Option (List Value)) → wanted file.pairs image ≡ o → filter (joins file image) own ≡ []
      by None is =
          filter-never (IsKept file members) (joins file image)
          (λ pair kept. joined-wanted file.pairs image pair.1 [] kept.0.there ∙ ap (λ o. has_wanted o (joined_key file.pairs pair.1 ++ [])) is) own (path-kept file members good)
      by (Some values) is = none-some (values_bytes file.pairs values) (value-given (Some values) is None none)

  abbrev kept : (Matched → Bool) → ℕ × List ℕ → Bool
  kept keeps pair = joins file image pair && keeps (matched file pair)

  abbrev shows : Entry → Matched
  shows entry = matched_number file members (Some entry.rrn)

  abbrev numbered : ℕ × List ℕ → Matched
  numbered pair = matched_number file members (Some pair.0)

  -- of those that are joined the ones that pass a test, where a test of the entries agrees
  joined-tests : (part : List ℕ) → wanted_bytes file.pairs image ≡ Some part → (list : EntryList) → IsPathOf list (secondary_path file) members
      → (keeps : Matched → Bool) (test : Entry → Bool)
      → ((values : List Value) (is : wanted file.pairs image ≡ Some values) (sought : AreSought file.pairs values) → part ≡ values_bytes file.pairs values
      → (pair : ℕ × List ℕ) → IsRecord file pair → test (entry_in_path file pair) ≡ (joins file image pair && keeps (matched file pair)))
      → filter keeps (matches_of file members row) ≡ map (λ entry. matched_number file members (Some entry.rrn)) (filter test list.entries)
  joined-tests part some list is keeps test agree = by (wanted file.pairs image) refl
    where
      by : (o : Option (List Value)) → wanted file.pairs image ≡ o → filter keeps (matches_of file members row) ≡ map shows (filter test list.entries)
      by None none = some-none part (value-given None none (Some part) some)
      by (Some values) wants =
          let same : part ≡ values_bytes file.pairs values = some-same part (values_bytes file.pairs values) (value-given (Some values) wants (Some part) some) in
          let sought : AreSought file.pairs values = wanted-sought file.pairs image values bytes wants in
          ap (filter keeps) matches-own
          ∙ filter-map keeps (matched file) (filter (joins file image) own)
          ∙ ap (map (matched file)) (filter-twice (joins file image) (λ pair. keeps (matched file pair)) own)
          ∙ map-same (IsKept file members) (matched file) numbered
          (λ pair kind. ap (λ w. matched file (pair.0, w)) (sym kind.1)) (filter (kept keeps) own) (all-filter (IsKept file members) (kept keeps) own (path-kept file members good))
          ∙ ap (map numbered)
          (filter-same (IsKept file members) (kept keeps) (λ pair. test (entry_in_path file pair))
          (λ pair kind. sym (agree values wants sought same pair kind.0)) own (path-kept file members good))
          ∙ sym (map-map shows (entry_in_path file) (filter (λ pair. test (entry_in_path file pair)) own))
          ∙ ap (map shows) (sym (filter-map test (entry_in_path file) own))
          ∙ ap (λ es. map shows (filter test es)) (sym (entries-of-path file members list is))

  -- all that are joined
  pub all-joined : (part : List ℕ) → wanted_bytes file.pairs image ≡ Some part → (list : EntryList) → IsPathOf list (secondary_path file) members
      → matches_of file members row ≡ map (λ entry. matched_number file members (Some entry.rrn)) (filter (begins_with part) list.entries)
  all-joined part some list is =
      sym (filter-always (matches_of file members row))
      ∙ joined-tests part some list is (λ m. true) (begins_with part)
      (λ values wants sought same pair r. ap (λ w. begins_with w (entry_in_path file pair)) same ∙ joined-test file image values wants sought pair r ∙ sym (and-true (joins file image pair)))

  -- those from a position on
  pub joined-from : (part : List ℕ) → wanted_bytes file.pairs image ≡ Some part → (list : EntryList) → IsPathOf list (secondary_path file) members → (place : Option (List Match)) → IsFrom file place
      → filter (λ m. isnt_before compare_matches place (match_of m)) (matches_of file members row)
      ≡ map (λ entry. matched_number file members (Some entry.rrn)) (filter (is_match_after false part (key_from file part place) (number_from place)) list.entries)
  joined-from part some list is place good-place =
      joined-tests part some list is (λ m. isnt_before compare_matches place (match_of m)) (is_match_after false part (key_from file part place) (number_from place))
      (λ values wants sought same pair r. ap (λ w. is_match_after false w (key_from file w place) (number_from place) (entry_in_path file pair)) same ∙ test-same file image values wants sought pair r place good-place)

  -- those up to a record
  pub joined-until : (part : List ℕ) → wanted_bytes file.pairs image ≡ Some part → (list : EntryList) → IsPathOf list (secondary_path file) members
      → (v : KeyValue) (rrn : ℕ) (rest : List Match) → IsSequence file v
      → filter (λ m. isnt_after compare_matches (Some (RecordAt v rrn ∷ rest)) (match_of m)) (matches_of file members row)
      ≡ map (λ entry. matched_number file members (Some entry.rrn)) (filter (is_match_before false part (part ++ sequence_bytes file.sequence v) (rrn + 1)) list.entries)
  joined-until part some list is v rrn rest seq =
      joined-tests part some list is (λ m. isnt_after compare_matches (Some (RecordAt v rrn ∷ rest)) (match_of m)) (is_match_before false part (part ++ sequence_bytes file.sequence v) (rrn + 1))
      (λ values wants sought same pair r. ap (λ w. is_match_before false w (w ++ sequence_bytes file.sequence v) (rrn + 1) (entry_in_path file pair)) same ∙ until-same file image values wants sought pair r v rrn seq)

  -- where a record whose key begins with the bytes stands to a key that begins with them
  pub order-of : (part : List ℕ) → wanted_bytes file.pairs image ≡ Some part → (pair : ℕ × List ℕ) → IsRecord file pair → begins_with part (entry_in_path file pair) ≡ true
      → (v : KeyValue) → IsSequence file v → key_cmp (entry_in_path file pair).key (part ++ sequence_bytes file.sequence v) ≡ compare_key_values (key_value file.sequence pair.1) v
  order-of part some pair r begins v seq = by (wanted file.pairs image) refl
    where
      by : (o : Option (List Value)) → wanted file.pairs image ≡ o → key_cmp (entry_in_path file pair).key (part ++ sequence_bytes file.sequence v) ≡ compare_key_values (key_value file.sequence pair.1) v
      by None wants = some-none part (value-given None wants (Some part) some)
      by (Some values) wants =
          let same : part ≡ values_bytes file.pairs values = some-same part (values_bytes file.pairs values) (value-given (Some values) wants (Some part) some) in
          let sought : AreSought file.pairs values = wanted-sought file.pairs image values bytes wants in
          ap (λ w. key_cmp (entry_in_path file pair).key (w ++ sequence_bytes file.sequence v)) same
          ∙ key-order file image values wants sought pair r
          (sym (joined-test file image values wants sought pair r) ∙ ap (λ w. begins_with w (entry_in_path file pair)) (sym same) ∙ begins) v seq
