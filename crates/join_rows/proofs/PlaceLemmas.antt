-- Where a record of a secondary file stands in its path to the bytes that are wanted, and to a position.
use Rattle.std.proofs.Common.{◌≡◌, ℕ, ◌+◌, ◌-◌, ◌≤◌, ◌<◌, Bool, true, false, not, ◌&&◌, Option, Some, None, List, [], ◌∷◌, ◌++◌, length, map, refl, sym, ◌∙◌, ap, arith, append-nil}
use Rattle.std.specs.declared.cmp.Ordering.{Ordering}
use Rattle.std.specs.declared.cmp.Ordering.TheVariants.{Less, Equal, Greater}
use Rattle.std.specs.Ordering.{MatchOrdering, nat_cmp, ordering_then, is_eq, is_lt, is_gt}
use Rattle.std.specs.Cmp.Lexicographic.{slice_cmp}
use Rattle.std.specs.Cmp.{nat_cmp_is}
use Rattle.std.proofs.lemmas.Cmp.{ranked}
use Rattle.std.proofs.lemmas.List.{length-map}
use Rattle.std.proofs.lemmas.List.Elements.{recursion_from_All}
use Rattle.field_types.specs.declared.kinds.FieldType.{FieldType}
use Rattle.field_types.specs.declared.values.Value.{Value}
use Rattle.field_values.specs.FieldTypes.{width}
use Rattle.key_spec.specs.declared.KeyPart.{KeyPart}
use Rattle.key_spec.specs.declared.KeyPart.TheVariants.{Field, Absent}
use Rattle.key_pages.specs.Order.{key_cmp, entry_cmp}
use Rattle.file_model.specs.declared.joins.JoinPair.{JoinPair}
use Rattle.file_model.specs.declared.joins.Secondary.{Secondary}
use Rattle.file_model.specs.KeyOrder.{KeyValue, Missing, Ascending, Descending, compare_key_values, compare_keys, at_position, key_value}
use Rattle.file_model.specs.Joins.{Match, NoRecord, RecordAt, compare_matches, joined_fields, parts_from, sequence_part, total_width}
use Rattle.file_model.specs.Paths.{path_key}
use Rattle.file_model.specs.Views.{field_value, view_of}
use Rattle.access_path.specs.KeyBytes.{key_bytes}
use Rattle.access_path.specs.KeyFields.{Matches}
use Rattle.access_path.proofs.FitLemmas.{Bytes}
use Rattle.access_path.proofs.KeyLemmas.{FitsAt, AreFit, keys-cmp, keys-cut, image-fits}
use Rattle.access_path.proofs.ViewLemmas.{view-bytes}
use Rattle.access_path.specs.KeptEntries.{entry_with}
use Rattle.join_rows.specs.Levels.{isnt_before}
use Rattle.join_rows.specs.Wanted.{wanted, as_key, has_wanted}
use Rattle.join_rows.specs.WantedBytes.{joined_part, joined_parts, values_bytes}
use Rattle.join_rows.specs.Matches.{format_of, joined_key, sequence_key, secondary_key}
use Rattle.join_rows.specs.Numbers.{entry_in_path}
use Rattle.join_rows.specs.Places.{sequence_bytes, IsSequence, key_from, number_from, IsFrom}
use Rattle.join_rows.specs.Search.{begins_with, is_match_after, is_match_before}
use Rattle.join_rows.proofs.SoughtLemmas.{fit-append, key_bytes-append, AreSought}
use Rattle.join_rows.proofs.MatchLemmas.{IsThere, joins, path-key, joined-wanted, begins-equal, slice-append}

-- ---- positions of the two keys

matches-none : (parts : List KeyPart) → Matches parts []
matches-none [] = tt
matches-none (p ∷ parts) = tt

matches-joined : (at : ℕ) (pairs : List JoinPair) (more : List KeyPart) → Matches (parts_from at (map (λ pair. pair.to) pairs) ++ more) (joined_parts pairs)
matches-joined at [] more = matches-none more
matches-joined at (pair ∷ pairs) more = ((refl, refl), matches-joined (at + width pair.to.ty) pairs more)

matches-sequence : (at : ℕ) (sequence : KeyPart) → Matches (sequence_part at sequence) (sequence_part 0 sequence)
matches-sequence at Absent = tt
matches-sequence at (Field t offset descend absval) = ((refl, refl), tt)

matches-all : (at n : ℕ) (pairs : List JoinPair) (sequence : KeyPart) → Matches (parts_from at (map (λ pair. pair.to) pairs) ++ sequence_part n sequence) (joined_parts pairs ++ sequence_part 0 sequence)
matches-all at n [] sequence = matches-sequence n sequence
matches-all at n (pair ∷ pairs) sequence = ((refl, refl), matches-all (at + width pair.to.ty) n pairs sequence)

fits-elsewhere : (t : FieldType) (i j : ℕ) (descend absval : Bool) (v : KeyValue) → FitsAt (Field t i descend absval) v → FitsAt (Field t j descend absval) v
fits-elsewhere t i j descend absval Missing fits = tt
fits-elsewhere t i j descend absval (Ascending v) fits = fits
fits-elsewhere t i j descend absval (Descending v) fits = fits

sequence-fits : (sequence : KeyPart) (image : List ℕ) → Bytes image → AreFit (sequence_part 0 sequence) (sequence_key sequence (key_value sequence image))
sequence-fits Absent image bytes = tt
sequence-fits (Field t offset descend absval) image bytes =
    (fits-elsewhere t offset 0 descend absval (key_value (Field t offset descend absval) image) (image-fits (Field t offset descend absval ∷ []) image bytes).0, tt)

sequences-cmp : (sequence : KeyPart) (a b : List ℕ)
    → slice_cmp compare_key_values (sequence_key sequence (key_value sequence a)) (sequence_key sequence (key_value sequence b)) ≡ compare_key_values (key_value sequence a) (key_value sequence b)
sequences-cmp Absent a b = refl
sequences-cmp (Field t offset descend absval) a b = last (compare_key_values (key_value (Field t offset descend absval) a) (key_value (Field t offset descend absval) b))
  where
    last : (o : Ordering) → ordering_then o Equal ≡ o
    last Less = refl
    last Equal = refl
    last Greater = refl

-- ---- one record of the file

pub number-from : (r n : ℕ) → 1 ≤ n → is_gt (nat_cmp r (n - 1)) ≡ not (is_lt (nat_cmp r n))
number-from r n some = by (nat_cmp r (n - 1)) (nat_cmp r n) (ranked r (n - 1) (nat_cmp r (n - 1)) refl) (ranked r n (nat_cmp r n) refl)
  where
    by : (o p : Ordering) → MatchOrdering o (r < n - 1) (r ≡ n - 1) (n - 1 < r) → MatchOrdering p (r < n) (r ≡ n) (n < r) → is_gt o ≡ not (is_lt p)
    by Less Less h k = refl
    by Less Equal h k = absurd (omega (arith, h, k, some))
    by Less Greater h k = absurd (omega (arith, h, k, some))
    by Equal Less h k = refl
    by Equal Equal h k = absurd (omega (arith, h, k, some))
    by Equal Greater h k = absurd (omega (arith, h, k, some))
    by Greater Less h k = absurd (omega (arith, h, k, some))
    by Greater Equal h k = refl
    by Greater Greater h k = refl

place-from : (o : Ordering) (r n : ℕ) → 1 ≤ n → is_gt (ordering_then o (nat_cmp r (n - 1))) ≡ not (is_lt (ordering_then o (nat_cmp r n)))
place-from Less r n some = refl
place-from Equal r n some = number-from r n some
place-from Greater r n some = refl

pub number-until : (r n : ℕ) → is_lt (nat_cmp r (n + 1)) ≡ not (is_gt (nat_cmp r n))
number-until r n = by (nat_cmp r (n + 1)) (nat_cmp r n) (ranked r (n + 1) (nat_cmp r (n + 1)) refl) (ranked r n (nat_cmp r n) refl)
  where
    by : (o p : Ordering) → MatchOrdering o (r < n + 1) (r ≡ n + 1) (n + 1 < r) → MatchOrdering p (r < n) (r ≡ n) (n < r) → is_lt o ≡ not (is_gt p)
    by Less Less h k = refl
    by Less Equal h k = refl
    by Less Greater h k = absurd (omega (arith, h, k))
    by Equal Less h k = absurd (omega (arith, h, k))
    by Equal Equal h k = absurd (omega (arith, h, k))
    by Equal Greater h k = refl
    by Greater Less h k = absurd (omega (arith, h, k))
    by Greater Equal h k = absurd (omega (arith, h, k))
    by Greater Greater h k = refl

place-until : (o : Ordering) (r n : ℕ) → is_lt (ordering_then o (nat_cmp r (n + 1))) ≡ not (is_gt (ordering_then o (nat_cmp r n)))
place-until Less r n = refl
place-until Equal r n = number-until r n
place-until Greater r n = refl

above-none : (r : ℕ) → 1 ≤ r → nat_cmp r 0 ≡ Greater
above-none r some = sym (nat_cmp_is r 0 Greater (omega (arith, some)))

pub record IsRecord (file : Secondary) (pair : ℕ × List ℕ) : Type 0 where
  pub there : IsThere file pair.1
  pub bytes : Bytes pair.1
  pub above : 1 ≤ pair.0

module _ (file : Secondary) (from : List ℕ) (values : List Value) (is : wanted file.pairs from ≡ Some values) (sought : AreSought file.pairs values) where
  abbrev part : List ℕ
  part = values_bytes file.pairs values

  abbrev own_key : ℕ × List ℕ → List KeyValue
  own_key pair = path_key (format_of file) pair.1

  abbrev seqs : List ℕ → List KeyValue
  seqs image = sequence_key file.sequence (key_value file.sequence image)

  abbrev both : List KeyPart
  both = joined_parts file.pairs ++ sequence_part 0 file.sequence

  own-fits : (pair : ℕ × List ℕ) → IsRecord file pair → AreFit (format_of file).key (own_key pair)
  own-fits pair r = image-fits (format_of file).key (view_of (format_of file).fields pair.1) (view-bytes (format_of file).fields pair.1 r.bytes)

  pub joined-test : (pair : ℕ × List ℕ) → IsRecord file pair → begins_with part (entry_in_path file pair) ≡ joins file from pair
  joined-test pair r =
      ap is_eq (keys-cut (format_of file).key (joined_parts file.pairs) (own_key pair) (as_key values)
      (matches-joined 0 file.pairs (sequence_part (total_width (joined_fields file)) file.sequence)) (own-fits pair r) sought.fit)
      ∙ ap (λ w. has_wanted (Some values) w) (path-key file pair.1 r.there)
      ∙ ap (λ o. has_wanted o (secondary_key file pair.1)) (sym is)
      ∙ sym (joined-wanted file.pairs from pair.1 (seqs pair.1) r.there)

  equal-there : (pair : ℕ × List ℕ) → IsRecord file pair → joins file from pair ≡ true → compare_keys (joined_key file.pairs pair.1) (as_key values) ≡ Equal
  equal-there pair r joined =
      begins-equal file.pairs from pair.1 (seqs pair.1) values is
      (ap (λ o. has_wanted o (joined_key file.pairs pair.1 ++ seqs pair.1)) (sym is) ∙ sym (joined-wanted file.pairs from pair.1 (seqs pair.1) r.there) ∙ joined)

  same-count : (pair : ℕ × List ℕ) → length (joined_key file.pairs pair.1) ≡ length (as_key values)
  same-count pair =
      length-map file.pairs (λ p. at_position false false (field_value pair.1 p.to)) ∙ sym (length-map file.pairs joined_part) ∙ sym sought.count

  key-behind : (pair : ℕ × List ℕ) → IsRecord file pair → joins file from pair ≡ true → (more : List KeyValue)
      → compare_keys (own_key pair) (as_key values ++ more) ≡ slice_cmp compare_key_values (seqs pair.1) more
  key-behind pair r joined more =
      ap (λ w. compare_keys w (as_key values ++ more)) (path-key file pair.1 r.there)
      ∙ slice-append (joined_key file.pairs pair.1) (as_key values) (seqs pair.1) more (same-count pair)
      ∙ ap (λ o. ordering_then o (slice_cmp compare_key_values (seqs pair.1) more)) (equal-there pair r joined)

  from-first : (pair : ℕ × List ℕ) → IsRecord file pair → joins file from pair ≡ true → is_gt (entry_cmp false (entry_in_path file pair) (entry_with 0 0 part)) ≡ true
  from-first pair r joined =
      ap (λ o. is_gt (ordering_then o (nat_cmp pair.0 0)))
      (keys-cmp (format_of file).key (joined_parts file.pairs) (own_key pair) (as_key values)
      (matches-joined 0 file.pairs (sequence_part (total_width (joined_fields file)) file.sequence)) (own-fits pair r) sought.fit
      ∙ ap (compare_keys (own_key pair)) (sym (append-nil (as_key values)))
      ∙ key-behind pair r joined [])
      ∙ by file.sequence
    where
      by : (sequence : KeyPart) → is_gt (ordering_then (slice_cmp compare_key_values (sequence_key sequence (key_value sequence pair.1)) []) (nat_cmp pair.0 0)) ≡ true
      by Absent = ap is_gt (above-none pair.0 r.above)
      by (Field t offset descend absval) = refl

  -- where a record stands to a key that begins with the bytes
  pub key-order : (pair : ℕ × List ℕ) → IsRecord file pair → joins file from pair ≡ true → (v : KeyValue) → IsSequence file v
      → key_cmp (key_bytes (format_of file).key (own_key pair)) (part ++ sequence_bytes file.sequence v) ≡ compare_key_values (key_value file.sequence pair.1) v
  key-order pair r joined v seq =
      ap (key_cmp (key_bytes (format_of file).key (own_key pair))) whole
      ∙ keys-cmp (format_of file).key both (own_key pair) (as_key values ++ seqs seq.image)
      (matches-all 0 (total_width (joined_fields file)) file.pairs file.sequence) (own-fits pair r) fits
      ∙ key-behind pair r joined (seqs seq.image)
      ∙ sequences-cmp file.sequence pair.1 seq.image
      ∙ ap (compare_key_values (key_value file.sequence pair.1)) (sym seq.value)
    where
      whole : part ++ sequence_bytes file.sequence v ≡ key_bytes both (as_key values ++ seqs seq.image)
      whole =
          ap (λ w. part ++ sequence_bytes file.sequence w) seq.value
          ∙ sym (key_bytes-append (joined_parts file.pairs) (sequence_part 0 file.sequence) (as_key values) (seqs seq.image) sought.count)

      fits : AreFit both (as_key values ++ seqs seq.image)
      fits =
          fit-append (joined_parts file.pairs) (sequence_part 0 file.sequence) (as_key values) (seqs seq.image) sought.count sought.fit
          (sequence-fits file.sequence seq.image (recursion_from_All (λ b. b < 256) seq.image seq.bytes))

  from-place : (pair : ℕ × List ℕ) → IsRecord file pair → joins file from pair ≡ true → (v : KeyValue) (rrn : ℕ) → IsSequence file v → 1 ≤ rrn
      → is_gt (entry_cmp false (entry_in_path file pair) (entry_with 0 (rrn - 1) (part ++ sequence_bytes file.sequence v))) ≡ not (is_lt (compare_matches (RecordAt (key_value file.sequence pair.1) pair.0) (RecordAt v rrn)))
  from-place pair r joined v rrn seq some =
      ap (λ o. is_gt (ordering_then o (nat_cmp pair.0 (rrn - 1)))) (key-order pair r joined v seq)
      ∙ place-from (compare_key_values (key_value file.sequence pair.1) v) pair.0 rrn some

  isnt-before : (pair : ℕ × List ℕ) → IsRecord file pair → joins file from pair ≡ true → (place : Option (List Match)) → IsFrom file place
      → is_gt (entry_cmp false (entry_in_path file pair) (entry_with 0 (number_from place) (key_from file part place))) ≡ isnt_before compare_matches place (RecordAt (key_value file.sequence pair.1) pair.0)
  isnt-before pair r joined None good = from-first pair r joined
  isnt-before pair r joined (Some []) good = from-first pair r joined
  isnt-before pair r joined (Some (NoRecord ∷ rest)) good = from-first pair r joined
  isnt-before pair r joined (Some (RecordAt v rrn ∷ rest)) good = from-place pair r joined v rrn good.0 good.1

  pub test-same : (pair : ℕ × List ℕ) → IsRecord file pair → (place : Option (List Match)) → IsFrom file place
      → is_match_after false part (key_from file part place) (number_from place) (entry_in_path file pair) ≡ (joins file from pair && isnt_before compare_matches place (RecordAt (key_value file.sequence pair.1) pair.0))
  test-same pair r place good =
      ap (λ b. b && is_gt (entry_cmp false (entry_in_path file pair) (entry_with 0 (number_from place) (key_from file part place)))) (joined-test pair r)
      ∙ by (joins file from pair) (isnt-before pair r)
    where
      by : (b : Bool)
          → (b ≡ true → (place' : Option (List Match)) → IsFrom file place' → is_gt (entry_cmp false (entry_in_path file pair) (entry_with 0 (number_from place') (key_from file part place'))) ≡ isnt_before compare_matches place' (RecordAt (key_value file.sequence pair.1) pair.0))
          → (b && is_gt (entry_cmp false (entry_in_path file pair) (entry_with 0 (number_from place) (key_from file part place)))) ≡ (b && isnt_before compare_matches place (RecordAt (key_value file.sequence pair.1) pair.0))
      by true same = same refl place good
      by false same = refl

  until-place : (pair : ℕ × List ℕ) → IsRecord file pair → joins file from pair ≡ true → (v : KeyValue) (rrn : ℕ) → IsSequence file v
      → is_lt (entry_cmp false (entry_in_path file pair) (entry_with 0 (rrn + 1) (part ++ sequence_bytes file.sequence v))) ≡ not (is_gt (compare_matches (RecordAt (key_value file.sequence pair.1) pair.0) (RecordAt v rrn)))
  until-place pair r joined v rrn seq =
      ap (λ o. is_lt (ordering_then o (nat_cmp pair.0 (rrn + 1)))) (key-order pair r joined v seq)
      ∙ place-until (compare_key_values (key_value file.sequence pair.1) v) pair.0 rrn

  pub until-same : (pair : ℕ × List ℕ) → IsRecord file pair → (v : KeyValue) (rrn : ℕ) → IsSequence file v
      → is_match_before false part (part ++ sequence_bytes file.sequence v) (rrn + 1) (entry_in_path file pair)
      ≡ (joins file from pair && not (is_gt (compare_matches (RecordAt (key_value file.sequence pair.1) pair.0) (RecordAt v rrn))))
  until-same pair r v rrn seq =
      ap (λ b. b && is_lt (entry_cmp false (entry_in_path file pair) (entry_with 0 (rrn + 1) (part ++ sequence_bytes file.sequence v)))) (joined-test pair r)
      ∙ by (joins file from pair) (λ joined. until-place pair r joined v rrn seq)
    where
      by : (b : Bool)
          → (b ≡ true → is_lt (entry_cmp false (entry_in_path file pair) (entry_with 0 (rrn + 1) (part ++ sequence_bytes file.sequence v))) ≡ not (is_gt (compare_matches (RecordAt (key_value file.sequence pair.1) pair.0) (RecordAt v rrn))))
          → (b && is_lt (entry_cmp false (entry_in_path file pair) (entry_with 0 (rrn + 1) (part ++ sequence_bytes file.sequence v)))) ≡ (b && not (is_gt (compare_matches (RecordAt (key_value file.sequence pair.1) pair.0) (RecordAt v rrn))))
      by true same = same refl
      by false same = refl
