-- The records that a row is joined to stand in the secondary's path one after another, in the order of the rows.
use Rattle.std.proofs.Common.{◌≡◌, ℕ, zero, suc, ◌+◌, Bool, true, false, cond, ◌&&◌, Option, Some, None, is_some, ◌==◌, List, [], ◌∷◌, ◌++◌, length, take, drop, map, refl, sym, ◌∙◌, ap, subst, arith, append_assoc, append-nil}
use Rattle.std.specs.Prelude.{filter}
use Rattle.std.specs.List.{list_all, AllByRecursion}
use Rattle.std.specs.declared.cmp.Ordering.{Ordering}
use Rattle.std.specs.declared.cmp.Ordering.TheVariants.{Less, Equal, Greater}
use Rattle.std.specs.Ordering.{nat_cmp, ordering_then, ordering_reverse, is_eq}
use Rattle.std.specs.Cmp.{on_total}
use Rattle.std.specs.Cmp.Lexicographic.{slice_cmp}
use Rattle.std.proofs.lemmas.Bool.{cond-true, cond-false, eqb-true}
use Rattle.std.proofs.lemmas.Grind.{flat_map-append}
use Rattle.std.proofs.lemmas.List.{map-append, take_at, drop_at, length-append, length-map}
use Rattle.field_types.specs.declared.kinds.FieldType.{FieldType}
use Rattle.field_types.specs.declared.values.Value.{Value}
use Rattle.field_values.specs.FieldTypes.{width}
use Rattle.field_values.specs.FieldBytes.{held, held_as}
use Rattle.field_values.specs.FirstBad.{part}
use Rattle.key_spec.specs.declared.KeyPart.{KeyPart}
use Rattle.key_spec.specs.declared.KeyPart.TheVariants.{Field, Absent}
use Rattle.key_spec.specs.declared.Ties.TheVariants.{Rising}
use Rattle.member_slots.specs.Member.{records}
use Rattle.member_slots.specs.Members.{NumberedMembers, member_of}
use Rattle.file_model.specs.declared.joins.JoinPair.{JoinPair}
use Rattle.file_model.specs.declared.joins.Secondary.{Secondary}
use Rattle.file_model.specs.declared.views.ViewField.{ViewField}
use Rattle.file_model.specs.KeyOrder.{KeyValue, Ascending, compare_values, compare_key_values, compare_keys, compare_with, at_position, key_value, key_of}
use Rattle.file_model.specs.Joins.{JoinRow, image_in, is_joined, matched, compare_matched, matches_of, joined_fields, sequence_field, parts_from, sequence_part, total_width, secondary_path}
use Rattle.file_model.specs.Paths.{compare_entries, path_key, entry_of, entries_of, path}
use Rattle.file_model.specs.Sorting.{in_order}
use Rattle.file_model.specs.Selection.{is_related}
use Rattle.file_model.specs.declared.rules.Relation.TheVariants.{Equals}
use Rattle.file_model.specs.Views.{field_value, field_image, view_of}
use Rattle.file_model.proofs.OrderLemmas.{compare_keys-total, compare_entries-total}
use Rattle.join_rows.specs.Wanted.{wanted, sought_in, with_value, as_key, has_wanted, is_wanted}
use Rattle.join_rows.specs.Matches.{format_of, joined_key, sequence_key, secondary_key, records_in_path}
use Rattle.join_rows.proofs.OptionLemmas.{true-false, none-some, some-same}
use Rattle.join_rows.proofs.WantedLemmas.{is_related-wanted}
use Rattle.join_rows.proofs.SortedLemmas.{in_order-map, in_order-same, filter-in_order}

-- ---- the key of a record in the secondary's path

pub some-width : (t : FieldType) (w : List ℕ) → is_some (held t w) ≡ true → length w ≡ width t
unfolding held
some-width t w there = by (length w == width t) refl there
  where
    by : (b : Bool) → (length w == width t) ≡ b → is_some (cond b (held_as t.kind t.length t.decimals w) None) ≡ true → length w ≡ width t
    by true is h = eqb-true (length w) (width t) is
    by false is h = true-false (sym h)

abbrev AreThere : List ViewField → List ℕ → Type 0
AreThere fields image = AllByRecursion (λ f. is_some (field_value image f) ≡ true) fields

-- the values at positions one after another are those of the fields that are shown there
fields-key : (fields : List ViewField) (image front back : List ℕ) (at : ℕ) → length front ≡ at → AreThere fields image
    → key_of (parts_from at fields) (front ++ (view_of fields image ++ back)) ≡ map (λ f. at_position false false (field_value image f)) fields
fields-key [] image front back at long there = refl
fields-key (f ∷ fields) image front back at long there =
    let here : List ℕ = field_image image f in
    let count : length here ≡ width f.ty = some-width f.ty here there.0 in
    let behind : front ++ ((here ++ view_of fields image) ++ back) ≡ front ++ (here ++ (view_of fields image ++ back)) = ap (λ w. front ++ w) (append_assoc here (view_of fields image) back) in
    let first : part at (width f.ty) (front ++ ((here ++ view_of fields image) ++ back)) ≡ here =
    ap (part at (width f.ty)) behind
    ∙ ap (take (width f.ty)) (drop_at front (here ++ (view_of fields image ++ back)) at long)
    ∙ take_at here (view_of fields image ++ back) (width f.ty) count in
    let rest : key_of (parts_from (at + width f.ty) fields) ((front ++ here) ++ (view_of fields image ++ back)) ≡ map (λ g. at_position false false (field_value image g)) fields =
    fields-key fields image (front ++ here) back (at + width f.ty) (let n : length (front ++ here) ≡ length front + length here = length-append front here in omega arith) there.1 in
    ap (λ w. at_position false false (held f.ty w) ∷ key_of (parts_from (at + width f.ty) fields) (front ++ ((here ++ view_of fields image) ++ back))) first
    ∙ ap (λ w. at_position false false (field_value image f) ∷ key_of (parts_from (at + width f.ty) fields) w) (behind ∙ sym (append_assoc front here (view_of fields image ++ back)))
    ∙ ap (λ w. at_position false false (field_value image f) ∷ w) rest

length-view : (fields : List ViewField) (image : List ℕ) → AreThere fields image → length (view_of fields image) ≡ total_width fields
length-view [] image there = refl
length-view (f ∷ fields) image there =
    let count : length (field_image image f) ≡ width f.ty = some-width f.ty (field_image image f) there.0 in
    let rest : length (view_of fields image) ≡ total_width fields = length-view fields image there.1 in
    length-append (field_image image f) (view_of fields image) ∙ omega arith

take-twice : (n : ℕ) (xs : List ℕ) → take n (take n xs) ≡ take n xs
take-twice zero xs = refl
take-twice (suc n) [] = refl
take-twice (suc n) (x ∷ xs) = ap (λ w. x ∷ w) (take-twice n xs)

-- the sequence field stands last
sequence-last : (sequence : KeyPart) (image front : List ℕ) (at : ℕ) → length front ≡ at
    → key_of (sequence_part at sequence) (front ++ view_of (sequence_field sequence) image) ≡ sequence_key sequence (key_value sequence image)
sequence-last Absent image front at long = refl
sequence-last (Field t offset descend absval) image front at long =
    ap (λ w. at_position descend absval (held t w) ∷ [])
    (ap (take (width t)) (drop_at front (part offset (width t) image ++ []) at long ∙ append-nil (part offset (width t) image))
    ∙ take-twice (width t) (drop offset image))

joined-there : (pairs : List JoinPair) (image : List ℕ) → AllByRecursion (λ pair. is_some (field_value image pair.to) ≡ true) pairs → AreThere (map (λ pair. pair.to) pairs) image
joined-there [] image there = tt
joined-there (pair ∷ pairs) image there = (there.0, joined-there pairs image there.1)

joined-map : (pairs : List JoinPair) (image : List ℕ) → map (λ f. at_position false false (field_value image f)) (map (λ pair. pair.to) pairs) ≡ joined_key pairs image
joined-map [] image = refl
joined-map (pair ∷ pairs) image = ap (λ w. at_position false false (field_value image pair.to) ∷ w) (joined-map pairs image)

abbrev pub IsThere : Secondary → List ℕ → Type 0
IsThere file image = AllByRecursion (λ pair. is_some (field_value image pair.to) ≡ true) file.pairs

pub path-key : (file : Secondary) (image : List ℕ) → IsThere file image → path_key (format_of file) image ≡ secondary_key file image
path-key file image there =
    let fields : List ViewField = joined_fields file in
    let front : List ℕ = view_of fields image in
    let behind : List ℕ = view_of (sequence_field file.sequence) image in
    let shown : AreThere fields image = joined-there file.pairs image there in
    let whole : view_of (fields ++ sequence_field file.sequence) image ≡ front ++ behind = flat_map-append (field_image image) fields (sequence_field file.sequence) in
    ap (key_of (parts_from 0 fields ++ sequence_part (total_width fields) file.sequence)) whole
    ∙ map-append (λ p. key_value p (front ++ behind)) (parts_from 0 fields) (sequence_part (total_width fields) file.sequence)
    ∙ ap (λ w. w ++ key_of (sequence_part (total_width fields) file.sequence) (front ++ behind)) (fields-key fields image [] behind 0 refl shown ∙ joined-map file.pairs image)
    ∙ ap (λ w. joined_key file.pairs image ++ w) (sequence-last file.sequence image front (total_width fields) (length-view fields image shown))

-- ---- joined records

and-false : (b : Bool) → (b && false) ≡ false
and-false true = refl
and-false false = refl

then-eq : (o p : Ordering) → (is_eq o && is_eq p) ≡ is_eq (ordering_then o p)
then-eq Less p = refl
then-eq Equal p = refl
then-eq Greater p = refl

some-of : {A : Type 0} (o : Option A) → is_some o ≡ true → (x : A) × (o ≡ Some x)
some-of None h = true-false (sym h)
some-of (Some x) h = (x, refl)

wanted-step : (s : Option Value) (values : Option (List Value)) (w : Value) (key : List KeyValue) → (is_wanted s w && has_wanted values key) ≡ has_wanted (with_value s values) (Ascending w ∷ key)
wanted-step None values w key = refl
wanted-step (Some x) None w key = and-false (is_eq (compare_values w x))
wanted-step (Some x) (Some values) w key = then-eq (compare_values w x) (compare_keys (take (length (as_key values)) key) (as_key values))

pub joined-wanted : (pairs : List JoinPair) (from to : List ℕ) (more : List KeyValue) → AllByRecursion (λ pair. is_some (field_value to pair.to) ≡ true) pairs
    → list_all (is_joined from to) pairs ≡ has_wanted (wanted pairs from) (joined_key pairs to ++ more)
joined-wanted [] from to more there = refl
joined-wanted (pair ∷ pairs) from to more there =
    let value = some-of (field_value to pair.to) there.0 in
    ap (λ b. b && list_all (is_joined from to) pairs)
    (ap (λ o. is_related Equals (field_value from pair.from) o) value.1 ∙ is_related-wanted pair.to.ty (field_value from pair.from) value.0 (field_image to pair.to) value.1)
    ∙ ap (λ b. is_wanted (sought_in pair.to.ty (field_value from pair.from)) value.0 && b) (joined-wanted pairs from to more there.1)
    ∙ wanted-step (sought_in pair.to.ty (field_value from pair.from)) (wanted pairs from) value.0 (joined_key pairs to ++ more)
    ∙ ap (λ o. has_wanted (with_value (sought_in pair.to.ty (field_value from pair.from)) (wanted pairs from)) (at_position false false o ∷ joined_key pairs to ++ more)) (sym value.1)

-- ---- their order

pub slice-append : (a b x y : List KeyValue) → length a ≡ length b → slice_cmp compare_key_values (a ++ x) (b ++ y) ≡ ordering_then (slice_cmp compare_key_values a b) (slice_cmp compare_key_values x y)
slice-append [] [] x y same = refl
slice-append [] (d ∷ b) x y same = cc
slice-append (c ∷ a) [] x y same = cc
slice-append (c ∷ a) (d ∷ b) x y same =
    ap (ordering_then (compare_key_values c d)) (slice-append a b x y (let e : length a ≡ length b = omega arith in e))
    ∙ sym (assoc (compare_key_values c d) (slice_cmp compare_key_values a b) (slice_cmp compare_key_values x y))
  where
    assoc : (o p q : Ordering) → ordering_then (ordering_then o p) q ≡ ordering_then o (ordering_then p q)
    assoc Less p q = refl
    assoc Equal p q = refl
    assoc Greater p q = refl

equal-of : (o : Ordering) → is_eq o ≡ true → o ≡ Equal
equal-of Less e = true-false (sym e)
equal-of Equal e = refl
equal-of Greater e = true-false (sym e)

length-wanted : (pairs : List JoinPair) (from : List ℕ) (values : List Value) → wanted pairs from ≡ Some values → length (as_key values) ≡ length pairs
length-wanted [] from values is = ap (λ vs. length (as_key vs)) (sym (some-same [] values is))
length-wanted (pair ∷ pairs) from values is = by (sought_in pair.to.ty (field_value from pair.from)) (wanted pairs from) refl is (length-wanted pairs from)
  where
    by : (s : Option Value) (rest : Option (List Value)) → wanted pairs from ≡ rest → with_value s rest ≡ Some values
        → ((vs : List Value) → wanted pairs from ≡ Some vs → length (as_key vs) ≡ length pairs) → length (as_key values) ≡ suc (length pairs)
    by None rest same h shorter = none-some values h
    by (Some v) None same h shorter = none-some values h
    by (Some v) (Some vs) same h shorter =
        ap (λ ws. length (as_key ws)) (sym (some-same (v ∷ vs) values h)) ∙ ap suc (shorter vs same)

-- a key that begins with what is wanted is equal to it there
pub begins-equal : (pairs : List JoinPair) (from to : List ℕ) (more : List KeyValue) (values : List Value) → wanted pairs from ≡ Some values
    → has_wanted (Some values) (joined_key pairs to ++ more) ≡ true → compare_keys (joined_key pairs to) (as_key values) ≡ Equal
begins-equal pairs from to more values is begins =
    let count : length (as_key values) ≡ length pairs = length-wanted pairs from values is in
    let long : length (joined_key pairs to) ≡ length pairs = length-map pairs (λ pair. at_position false false (field_value to pair.to)) in
    ap (λ w. compare_keys w (as_key values)) (sym (take_at (joined_key pairs to) more (length (as_key values)) (omega arith)))
    ∙ equal-of (compare_with (as_key values) (joined_key pairs to ++ more)) begins

module _ (file : Secondary) (from : List ℕ) where
  abbrev pub joins : ℕ × List ℕ → Bool
  joins pair = list_all (is_joined from pair.1) file.pairs

  pub record IsAmong (pair : ℕ × List ℕ) : Type 0 where
    pub there : IsThere file pair.1
    pub joined : joins pair ≡ true

  sequences-cmp : (sequence : KeyPart) (v w : KeyValue) → (sequence ≡ Absent → compare_key_values v w ≡ Equal)
      → slice_cmp compare_key_values (sequence_key sequence v) (sequence_key sequence w) ≡ compare_key_values v w
  sequences-cmp Absent v w none = sym (none refl)
  sequences-cmp (Field t offset descend absval) v w none = last (compare_key_values v w)
    where
      last : (o : Ordering) → ordering_then o Equal ≡ o
      last Less = refl
      last Equal = refl
      last Greater = refl

  absent-equal : (sequence : KeyPart) (a b : List ℕ) → sequence ≡ Absent → compare_key_values (key_value sequence a) (key_value sequence b) ≡ Equal
  absent-equal Absent a b is = refl
  absent-equal (Field t offset descend absval) a b is = cc

  same-order : (a b : ℕ × List ℕ) → IsAmong a → IsAmong b
      → compare_entries Rising (entry_of 0 (format_of file) a) (entry_of 0 (format_of file) b) ≡ compare_matched (matched file a) (matched file b)
  same-order a b first second = by (wanted file.pairs from) refl
    where
      by : (values : Option (List Value)) → wanted file.pairs from ≡ values
          → compare_entries Rising (entry_of 0 (format_of file) a) (entry_of 0 (format_of file) b) ≡ compare_matched (matched file a) (matched file b)
      by None is = true-false (sym first.joined ∙ joined-wanted file.pairs from a.1 [] first.there ∙ ap (λ o. has_wanted o (joined_key file.pairs a.1 ++ [])) is)
      by (Some values) is =
          let seqs : ℕ × List ℕ → List KeyValue = λ pair. sequence_key file.sequence (key_value file.sequence pair.1) in
          let one : compare_keys (joined_key file.pairs a.1) (as_key values) ≡ Equal =
          begins-equal file.pairs from a.1 (seqs a) values is
          (ap (λ o. has_wanted o (joined_key file.pairs a.1 ++ seqs a)) (sym is) ∙ sym (joined-wanted file.pairs from a.1 (seqs a) first.there) ∙ first.joined) in
          let two : compare_keys (joined_key file.pairs b.1) (as_key values) ≡ Equal =
          begins-equal file.pairs from b.1 (seqs b) values is
          (ap (λ o. has_wanted o (joined_key file.pairs b.1 ++ seqs b)) (sym is) ∙ sym (joined-wanted file.pairs from b.1 (seqs b) second.there) ∙ second.joined) in
          let both : compare_keys (joined_key file.pairs a.1) (joined_key file.pairs b.1) ≡ Equal =
          compare_keys-total.congr (joined_key file.pairs a.1) (as_key values) (joined_key file.pairs b.1) one
          ∙ compare_keys-total.antisymm (as_key values) (joined_key file.pairs b.1) ∙ ap ordering_reverse two in
          let long : length (joined_key file.pairs a.1) ≡ length (joined_key file.pairs b.1) =
          length-map file.pairs (λ pair. at_position false false (field_value a.1 pair.to)) ∙ sym (length-map file.pairs (λ pair. at_position false false (field_value b.1 pair.to))) in
          let keys : compare_keys (path_key (format_of file) a.1) (path_key (format_of file) b.1) ≡ compare_key_values (key_value file.sequence a.1) (key_value file.sequence b.1) =
          ap (λ w. compare_keys w (path_key (format_of file) b.1)) (path-key file a.1 first.there)
          ∙ ap (λ w. compare_keys (secondary_key file a.1) w) (path-key file b.1 second.there)
          ∙ slice-append (joined_key file.pairs a.1) (joined_key file.pairs b.1) (seqs a) (seqs b) long
          ∙ ap (λ o. ordering_then o (slice_cmp compare_key_values (seqs a) (seqs b))) both
          ∙ sequences-cmp file.sequence (key_value file.sequence a.1) (key_value file.sequence b.1) (absent-equal file.sequence a.1 b.1) in
          ap (λ o. ordering_then o (nat_cmp a.0 b.0)) keys

-- ---- the matches

filter-none : {A : Type 0} (xs : List A) → filter (λ x. true) xs ≡ xs
filter-none [] = refl
filter-none (x ∷ xs) = ap (λ w. x ∷ w) (filter-none xs)

-- the path is that of its records
pub path-records : (file : Secondary) (members : NumberedMembers) → path (secondary_path file) members ≡ map (entry_of 0 (format_of file)) (records_in_path file members)
path-records file members =
    let all : List (ℕ × List ℕ) = records (member_of file.member members) in
    ap (in_order (compare_entries Rising)) (append-nil (entries_of 0 (format_of file) members) ∙ ap (map (entry_of 0 (format_of file))) (filter-none all))
    ∙ in_order-map (compare_entries Rising) (entry_of 0 (format_of file)) all

all-kept : {A : Type 0} (P Q : A → Type 0) (keeps : A → Bool) → ((x : A) → P x → keeps x ≡ true → Q x) → (xs : List A) → AllByRecursion P xs → AllByRecursion Q (filter keeps xs)
all-kept P Q keeps so [] all = tt
all-kept P Q keeps so (x ∷ xs) all = by (keeps x) refl (all-kept P Q keeps so xs all.1)
  where
    by : (b : Bool) → keeps x ≡ b → AllByRecursion Q (filter keeps xs) → AllByRecursion Q (filter keeps (x ∷ xs))
    by true is rest = subst (AllByRecursion Q) (sym (cond-true (keeps x) (x ∷ filter keeps xs) (filter keeps xs) is)) (so x all.0 is, rest)
    by false is rest = subst (AllByRecursion Q) (sym (cond-false (keeps x) (x ∷ filter keeps xs) (filter keeps xs) is)) rest

pub matches-records : (file : Secondary) (members : NumberedMembers) (row : JoinRow) → AllByRecursion (λ pair. IsThere file pair.1) (records (member_of file.member members))
    → matches_of file members row ≡ map (matched file) (filter (joins file (image_in file.from row.images)) (records_in_path file members))
matches-records file members row there =
    let from : List ℕ = image_in file.from row.images in
    let all : List (ℕ × List ℕ) = records (member_of file.member members) in
    let compare : ℕ × List ℕ → ℕ × List ℕ → Ordering = λ a b. compare_entries Rising (entry_of 0 (format_of file) a) (entry_of 0 (format_of file) b) in
    in_order-map compare_matched (matched file) (filter (joins file from) all)
    ∙ ap (map (matched file))
    (sym (in_order-same compare (λ a b. compare_matched (matched file a) (matched file b)) (IsAmong file from) (same-order file from) (filter (joins file from) all)
    (all-kept (λ pair. IsThere file pair.1) (IsAmong file from) (joins file from) (λ pair is joined. record { there = is; joined = joined }) all there))
    ∙ sym (filter-in_order compare (on_total (entry_of 0 (format_of file)) (compare_entries-total Rising)) (joins file from) all))
