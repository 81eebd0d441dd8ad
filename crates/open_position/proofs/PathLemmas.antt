-- Along a path a read finds by bytes what the definition finds by values.
use Rattle.std.proofs.Common.{◌≡◌, ℕ, ◌+◌, ◌<◌, ◌≤◌, ◌==◌, Bool, Option, Some, None, List, [], ◌∷◌, length, map, refl, sym, ◌∙◌, ap, subst, arith}
use Rattle.std.specs.Prelude.{All, IfSome}
use Rattle.std.specs.List.{AllByRecursion}
use Rattle.std.specs.Option.{option_map}
use Rattle.std.proofs.lemmas.List.{length-map}
use Rattle.std.proofs.lemmas.List.Elements.{All-from_recursion, recursion_from_All}
use Rattle.field_types.specs.declared.values.Value.{Value}
use Rattle.key_spec.specs.declared.KeyPart.{KeyPart}
use Rattle.key_pages.specs.declared.entries.Entry.{Entry}
use Rattle.key_pages.specs.EntryList.{EntryList}
use Rattle.member_slots.specs.Members.{NumberedMembers, member_of}
use Rattle.file_model.specs.declared.paths.PathFormat.{PathFormat}
use Rattle.file_model.specs.declared.paths.PathSpec.{PathSpec}
use Rattle.file_model.specs.KeyOrder.{KeyValue, key_of, given_key, merged_parts}
use Rattle.file_model.specs.Views.{view_of}
use Rattle.file_model.specs.Paths as paths
use Rattle.file_model.specs.Paths.{PathEntry, compare_entries, entry_of, selected_of, path}
use Rattle.file_model.specs.Positions as model
use Rattle.file_model.proofs.PathLemmas.{all-map, all-append}
use Rattle.access_path.specs.KeyBytes.{key_bytes, encoded, encoded_values}
use Rattle.access_path.specs.KeyFields.{AreBytes, HasKey, Matches}
use Rattle.access_path.specs.GivenValues.{IsOfBytes, key_fault}
use Rattle.access_path.proofs.KeyLemmas.{merged-match}
use Rattle.access_path.specs.PathBytes.{is_falling, parts_of, in_bytes, ShowsBytes, IsInBytes}
use Rattle.access_path.proofs.OrderedLemmas.{all-in_order}
use Rattle.key_values.specs.KeyValues.{values_in}
use Rattle.file_cursor.specs.declared.places.Hit.{Hit}
use Rattle.file_cursor.specs.CursorPosition as cursor
use Rattle.file_cursor.specs.CursorPosition.{CursorPosition, Start, End, On, Before, Past, ByKey, ByNumber}
use Rattle.file_cursor.specs.Finding.{next_from, prior_from, next_equal, prior_equal, chain_key}
use Rattle.file_cursor.specs.PositionBytes.{IsPositionOf, AreGiven, position_in_bytes, HasKeysWithin}
use Rattle.file_cursor.proofs.ListLemmas.{find-map}
use Rattle.file_cursor.proofs.EntryLemmas.{AreParts, parts-from}
use Rattle.file_cursor.proofs.LawLemmas.{next-in-bytes, prior-in-bytes, next-equal-in-bytes, prior-equal-in-bytes, chain-in-bytes}
use Rattle.open_position.specs.declared.reads.ReadBy.{ReadBy}
use Rattle.open_position.specs.declared.reads.ReadBy.TheVariants as asked
use Rattle.open_position.specs.OpenStand.{IsEntryIn, AreGivenBytes, IsStandIn, entry_by, position_by, parts_at}
use Rattle.open_position.specs.Reads.{asked_of, IsAskedOf, found_of, IsPathOver, entry_hit}
use Rattle.open_position.proofs.HeldLemmas.{asked-holds}

-- ---- what is read back

-- the key of a record, of each of these formats
abbrev pub KeysBack : List (List KeyPart) → Type 0
KeysBack formats = (number : ℕ) (image : List ℕ) → number < length formats → AreBytes image → HasKey (parts_at formats number) image
    → values_in (merged_parts formats) (encoded (parts_at formats number) image) ≡ key_of (parts_at formats number) image

-- the values that a request gives
abbrev pub GivenBack : List KeyPart → Type 0
GivenBack parts = (values : List Value) → key_fault parts values ≡ None → All IsOfBytes values → values_in parts (encoded_values parts values) ≡ given_key parts values

-- ---- the entries of a path

-- its key is that of a record of bytes in which each key field stands for a value
record IsPathEntry (formats : List PathFormat) (e : PathEntry) : Type 0 where
  format : e.format < length formats
  key : (image : List ℕ) × AreBytes image × HasKey (parts_of formats e.format) image × (e.key ≡ key_of (parts_of formats e.format) image)

both : {A : Type 0} (P Q R : A → Type 0) → ((x : A) → P x → Q x → R x) → (xs : List A) → AllByRecursion P xs → AllByRecursion Q xs → AllByRecursion R xs
both P Q R so [] all more = tt
both P Q R so (x ∷ xs) all more = (so x all.0 more.0, both P Q R so xs all.1 more.1)

module _ (most : ℕ) (formats : List PathFormat) (members : NumberedMembers) where
  of-format : (number : ℕ) (format : PathFormat) → number < length formats → parts_of formats number ≡ format.key → ShowsBytes members format → HasKeysWithin most members format
      → AllByRecursion (IsPathEntry formats) (paths.entries_of number format members)
  of-format number format low own shown has =
      all-map (IsPathEntry formats) (entry_of number format) (selected_of format (member_of format.member members).slots)
      (both (λ pair. AreBytes (view_of format.fields pair.1)) (λ pair. HasKey format.key (view_of format.fields pair.1)) (λ pair. IsPathEntry formats (entry_of number format pair))
      (λ pair bytes key. record {
        format = low;
        key = (
          view_of format.fields pair.1,
          bytes,
          subst (λ (p : List KeyPart). HasKey p (view_of format.fields pair.1)) (sym own) key,
          ap (λ (p : List KeyPart). key_of p (view_of format.fields pair.1)) (sym own),
        );
      })
      (selected_of format (member_of format.member members).slots)
      (recursion_from_All (λ pair. AreBytes (view_of format.fields pair.1)) (selected_of format (member_of format.member members).slots) shown)
      (recursion_from_All (λ pair. HasKey format.key (view_of format.fields pair.1)) (selected_of format (member_of format.member members).slots) has.keys))

  of-formats : (number : ℕ) (others : List PathFormat) → number + length others ≤ length formats → AreParts formats members number others → AllByRecursion (ShowsBytes members) others
      → AllByRecursion (HasKeysWithin most members) others → AllByRecursion (IsPathEntry formats) (paths.entries_from number others members)
  of-formats number [] low own shown has = tt
  of-formats number (format ∷ others) low own shown has =
      all-append (IsPathEntry formats) (paths.entries_of number format members) (paths.entries_from (number + 1) others members)
      (of-format number format (omega arith) own.0 shown.0 has.0)
      (of-formats (number + 1) others (omega arith) own.1 shown.1 has.1)

path-entries : (most : ℕ) (spec : PathSpec) (members : NumberedMembers) → IsInBytes spec members → All (HasKeysWithin most members) spec.formats
    → AllByRecursion (IsPathEntry spec.formats) (path spec members)
path-entries most spec members fits has =
    all-in_order (compare_entries spec.ties) (IsPathEntry spec.formats) (paths.entries_from 0 spec.formats members)
    (of-formats most spec.formats members 0 spec.formats (omega arith)
    (parts-from spec.formats members 0 spec.formats (λ k. ap (parts_of spec.formats) (let e : 0 + k ≡ k = omega arith in e)))
    (recursion_from_All (ShowsBytes members) spec.formats fits.shown)
    (recursion_from_All (HasKeysWithin most members) spec.formats has))

-- ---- bytes and values

abbrev keys_of : List PathFormat → List (List KeyPart)
keys_of formats = map (λ format. format.key) formats

abbrev file_parts : List PathFormat → List KeyPart
file_parts formats = merged_parts (keys_of formats)

abbrev with-key : List ℕ → (format rrn : ℕ) → Entry
with-key key format rrn = record { key = key; format = format; rrn = rrn }

abbrev with-values : List KeyValue → (format rrn : ℕ) → PathEntry
with-values key format rrn = record { key = key; format = format; rrn = rrn }

module _ (formats : List PathFormat) (back : KeysBack (keys_of formats)) (given-back : GivenBack (file_parts formats)) where
  values-of : (entry : Entry) → (is : IsEntryIn (keys_of formats) entry) → values_in (file_parts formats) entry.key ≡ key_of (parts_of formats entry.format) is.key.0
  values-of entry is = ap (values_in (file_parts formats)) is.key.3 ∙ back entry.format is.key.0 is.format is.key.1 is.key.2

  entry-bytes : (entry : Entry) → IsEntryIn (keys_of formats) entry → in_bytes formats (entry_by (file_parts formats) entry) ≡ entry
  entry-bytes entry is =
      ap (λ (k : List ℕ). with-key k entry.format entry.rrn) (ap (key_bytes (parts_of formats entry.format)) (values-of entry is) ∙ sym is.key.3)

  values-given : (key : List ℕ) → (is : AreGivenBytes (file_parts formats) key) → values_in (file_parts formats) key ≡ given_key (file_parts formats) is.given.0
  values-given key is = ap (values_in (file_parts formats)) is.given.3 ∙ given-back is.given.0 is.given.1 is.given.2

  key-bytes : (key : List ℕ) → AreGivenBytes (file_parts formats) key → key_bytes (file_parts formats) (values_in (file_parts formats) key) ≡ key
  key-bytes key is = ap (key_bytes (file_parts formats)) (values-given key is) ∙ sym is.given.3

  are-given : (key : List ℕ) → AreGivenBytes (file_parts formats) key → AreGiven (file_parts formats) (values_in (file_parts formats) key)
  are-given key is = record { given = (is.given.0, is.given.1, is.given.2, values-given key is) }

  position-bytes : (position : CursorPosition) → IsStandIn (keys_of formats) position
      → position_in_bytes formats (file_parts formats) (position_by (file_parts formats) position) ≡ position
  position-bytes Start is = refl
  position-bytes End is = refl
  position-bytes (On entry) is = ap (λ (e : Entry). On e) (entry-bytes entry is)
  position-bytes (Before (ByKey key)) is = ap (λ (k : List ℕ). Before (ByKey k)) (key-bytes key is)
  position-bytes (Before (ByNumber n)) is = refl
  position-bytes (Past (ByKey key)) is = ap (λ (k : List ℕ). Past (ByKey k)) (key-bytes key is)
  position-bytes (Past (ByNumber n)) is = refl

  position-is : (position : CursorPosition) → IsStandIn (keys_of formats) position → IsPositionOf formats (file_parts formats) (position_by (file_parts formats) position)
  position-is Start is = tt
  position-is End is = tt
  position-is (On entry) is =
      let low = is.format in
      let long : length (keys_of formats) ≡ length formats = length-map formats (λ (format : PathFormat). format.key) in
      record { format = omega (arith, low, long); key = (is.key.0, is.key.1, values-of entry is) }
  position-is (Before (ByKey key)) is = are-given key is
  position-is (Before (ByNumber n)) is = tt
  position-is (Past (ByKey key)) is = are-given key is
  position-is (Past (ByNumber n)) is = tt

  -- an entry of a path, in bytes and back
  module _ (e : PathEntry) (is : IsPathEntry formats e) where
    entry-format : e.format < length (keys_of formats)
    entry-format =
        let low = is.format in
        let long : length (keys_of formats) ≡ length formats = length-map formats (λ (format : PathFormat). format.key) in
        omega (arith, low, long)

    entry-back : entry_by (file_parts formats) (in_bytes formats e) ≡ e
    entry-back =
        ap (λ (k : List KeyValue). with-values k e.format e.rrn)
        (ap (λ (k : List KeyValue). values_in (file_parts formats) (key_bytes (parts_of formats e.format) k)) is.key.3
        ∙ back e.format is.key.0 entry-format is.key.1 is.key.2
        ∙ sym is.key.3)

    entry-in : IsEntryIn (keys_of formats) (in_bytes formats e)
    entry-in = record {
      format = entry-format;
      key = (is.key.0, is.key.1, is.key.2, ap (key_bytes (parts_of formats e.format)) is.key.3);
    }

  abbrev Shows : Option Hit → Option PathEntry → Type 0
  Shows result found = (option_map (entry_hit (file_parts formats)) result ≡ found) × IfSome result (λ hit. IsEntryIn (keys_of formats) (cursor.entry_of hit))

  shown : (result : Option Hit) (found : Option PathEntry) → IfSome found (IsPathEntry formats) → option_map cursor.entry_of result ≡ option_map (in_bytes formats) found → Shows result found
  shown None None is same = (refl, tt)
  shown None (Some e) is same = absurd cc
  shown (Some hit) None is same = absurd cc
  shown (Some hit) (Some e) is same =
      let one : cursor.entry_of hit ≡ in_bytes formats e = cc in (
        ap Some (ap (entry_by (file_parts formats)) one ∙ entry-back e is),
        subst (IsEntryIn (keys_of formats)) (sym one) (entry-in e is),
      )

-- ---- what is found

module _ (spec : PathSpec) (members : NumberedMembers) (fits : IsInBytes spec members) (back : KeysBack (keys_of spec.formats)) (given-back : GivenBack (file_parts spec.formats)) where
  abbrev entries : List Entry
  entries = map (in_bytes spec.formats) (path spec members)

  abbrev reading : model.Reading PathEntry
  reading = model.path_reading spec.ties (path spec members)

  matching : All (λ key. Matches key (file_parts spec.formats)) (keys_of spec.formats)
  matching = All-from_recursion (λ key. Matches key (file_parts spec.formats)) (keys_of spec.formats) (merged-match (keys_of spec.formats) fits.match)

  module _ (position : CursorPosition) (stands : IsStandIn (keys_of spec.formats) position) where
    abbrev place : model.Position PathEntry
    place = position_by (file_parts spec.formats) position

    in-bytes : position_in_bytes spec.formats (file_parts spec.formats) place ≡ position
    in-bytes = position-bytes spec.formats back given-back position stands

    allowed : IsPositionOf spec.formats (file_parts spec.formats) place
    allowed = position-is spec.formats back given-back position stands

    found-in-bytes : (by : ReadBy) → IsAskedOf (keys_of spec.formats) by
        → found_of by (is_falling spec.ties) entries position ≡ option_map (in_bytes spec.formats) (asked_of by (file_parts spec.formats) reading place)
    found-in-bytes asked.Next can =
        ap (next_from (is_falling spec.ties) entries) (sym in-bytes) ∙ next-in-bytes spec members (file_parts spec.formats) fits matching place allowed
    found-in-bytes asked.Prior can =
        ap (prior_from (is_falling spec.ties) entries) (sym in-bytes) ∙ prior-in-bytes spec members (file_parts spec.formats) fits matching place allowed
    found-in-bytes (asked.NextEqual key) can =
        let values = values_in (file_parts spec.formats) key.now in
        ap (λ (k : List ℕ). next_equal (is_falling spec.ties) entries k position) (sym (key-bytes spec.formats back given-back key.now can))
        ∙ ap (next_equal (is_falling spec.ties) entries (key_bytes (file_parts spec.formats) values)) (sym in-bytes)
        ∙ next-equal-in-bytes spec members (file_parts spec.formats) fits matching values (are-given spec.formats back given-back key.now can) place allowed
    found-in-bytes (asked.PriorEqual key) can =
        let values = values_in (file_parts spec.formats) key.now in
        ap (λ (k : List ℕ). prior_equal (is_falling spec.ties) entries k position) (sym (key-bytes spec.formats back given-back key.now can))
        ∙ ap (prior_equal (is_falling spec.ties) entries (key_bytes (file_parts spec.formats) values)) (sym in-bytes)
        ∙ prior-equal-in-bytes spec members (file_parts spec.formats) fits matching values (are-given spec.formats back given-back key.now can) place allowed
    found-in-bytes (asked.FirstEqual key) can =
        let values = values_in (file_parts spec.formats) key.now in
        ap (λ (k : List ℕ). chain_key k entries) (sym (key-bytes spec.formats back given-back key.now can))
        ∙ chain-in-bytes spec members (file_parts spec.formats) fits matching values (are-given spec.formats back given-back key.now can)
    found-in-bytes (asked.Number rrn) can = find-map (in_bytes spec.formats) (λ entry. entry.rrn == rrn) (path spec members)

-- what is found shows what the definition finds, and can be stood on
abbrev pub ShowsAsked : (formats : List (List KeyPart)) → ReadBy → PathSpec → NumberedMembers → CursorPosition → Option Hit → Type 0
ShowsAsked formats by spec members position result =
    (option_map (entry_hit (merged_parts formats)) result ≡ asked_of by (merged_parts formats) (model.path_reading spec.ties (path spec members)) (position_by (merged_parts formats) position))
    × IfSome result (λ hit. IsEntryIn formats (cursor.entry_of hit))

abbrev FindsIn : (spec : PathSpec) (members : NumberedMembers) (list : EntryList) (by : ReadBy) (position : CursorPosition) (result : Option Hit) (formats : List (List KeyPart)) → Type 0
FindsIn spec members list by position result formats =
    KeysBack formats → GivenBack (merged_parts formats) → IsStandIn formats position → IsAskedOf formats by → ShowsAsked formats by spec members position result

module _ (spec : PathSpec) (members : NumberedMembers) (list : EntryList) (by : ReadBy) (position : CursorPosition) (result : Option Hit)
    (found : option_map cursor.entry_of result ≡ found_of by list.falling list.entries position) where
  finds : (most : ℕ) → list.entries ≡ map (in_bytes spec.formats) (path spec members) → list.falling ≡ is_falling spec.ties → IsInBytes spec members → All (HasKeysWithin most members) spec.formats
      → FindsIn spec members list by position result (keys_of spec.formats)
  finds most entries falling fits has = λ back given-back stands can.
      shown spec.formats back given-back result
      (asked_of by (file_parts spec.formats) (model.path_reading spec.ties (path spec members)) (position_by (file_parts spec.formats) position))
      (asked-holds (IsPathEntry spec.formats) (file_parts spec.formats) spec.ties (path spec members) (path-entries most spec members fits has) by (position_by (file_parts spec.formats) position))
      (found
      ∙ ap (λ (b : Bool). found_of by b list.entries position) falling
      ∙ ap (λ (w : List Entry). found_of by (is_falling spec.ties) w position) entries
      ∙ found-in-bytes spec members fits back given-back position stands by can)

  pub finds-in-path : (formats : List (List KeyPart)) → IsPathOver formats spec members list → FindsIn spec members list by position result formats
  finds-in-path formats is = subst (FindsIn spec members list by position result) is.keys (finds is.held.0 is.entries is.falling is.comparable is.held.1)
