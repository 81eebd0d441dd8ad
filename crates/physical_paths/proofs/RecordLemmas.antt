-- The records of a file can stand in the path of its member.
use Rattle.std.proofs.Common.{◌≡◌, ℕ, ◌+◌, ◌-◌, ◌<◌, ◌≤◌, true, Option, Some, is_some, List, [], ◌∷◌, ◌++◌, length, take, drop, refl, sym, ◌∙◌, ap, subst, arith, length-append, append_assoc}
use Rattle.std.specs.Prelude.{All, map}
use Rattle.std.specs.List.{AllByRecursion, AllPairs, cons_option}
use Rattle.std.proofs.lemmas.List.{length-take-le, length-drop}
use Rattle.std.proofs.lemmas.List.Elements.{All-from_recursion, recursion_from_All}
use Rattle.std.proofs.Math.Seq.{take-append_seam, drop-append_seam}
use Rattle.field_types.specs.declared.kinds.FieldType.{FieldType}
use Rattle.field_values.specs.FieldTypes.{IsFieldType, width}
use Rattle.field_values.specs.FieldBytes.{held}
use Rattle.field_values.specs.FirstBad.{part}
use Rattle.member_slots.specs.declared.slot.Slot.{Slot}
use Rattle.member_slots.specs.declared.slot.Slot.TheVariants.{Live, Deleted}
use Rattle.member_slots.specs.Member.{records_from}
use Rattle.member_slots.specs.Members.{NumberedMembers, member_of}
use Rattle.record_fmt.specs.declared.formats.Field.{Field}
use Rattle.record_fmt.specs.Layout.{record_length, lies_from}
use Rattle.record_fmt.specs.Records.{record_held}
use Rattle.key_spec.specs.declared.KeyPart.{KeyPart}
use Rattle.key_spec.specs.declared.KeyPart.TheVariants.{Field as KeyField, Absent}
use Rattle.file_model.specs.declared.views.ViewField.{ViewField}
use Rattle.file_model.specs.declared.paths.PathFormat.{PathFormat}
use Rattle.file_model.specs.FilePaths.{field_of_part, key_fields, key_parts, own_fields, every_record, path_format, physical_path}
use Rattle.file_model.specs.KeyOrder.{at_position, key_of}
use Rattle.file_model.specs.Paths.{selected_of}
use Rattle.file_model.specs.Selection.{selects}
use Rattle.file_model.specs.Views.{view_of}
use Rattle.file_model.proofs.PathLemmas.{weaker, all-filter}
use Rattle.access_path.specs.KeyFields.{AreBytes, HasField, HasPosition, HasKey, key_width, Matches}
use Rattle.access_path.proofs.ViewLemmas.{view-bytes}
use Rattle.view_rules.specs.Shown.{HasShown}
use Rattle.access_path.specs.PathBytes.{ShowsBytes, IsInBytes}
use Rattle.access_path.specs.Rebuilding.{TakesSlot}
use Rattle.path_set.specs.Formats.{IsAskable, CanBeAsked}
use Rattle.path_set.specs.Sharing.{CanBeKept}
use Rattle.path_set.specs.RecordChanges.{TakesImage}
use Rattle.file_cursor.specs.PositionBytes.{HasKeysWithin}
use Rattle.dds_physical.specs.declared.physical_files.PhysicalSpec.{PhysicalSpec}
use Rattle.physical_paths.specs.KeyedFiles.{IsKeyed, IsRecord, IsRecordSlot, HasRecordsOf}
use Rattle.physical_paths.proofs.FieldLemmas.{IsPartOf, parts-of, copied_at, lies-in, fields-there}
use Rattle.physical_paths.proofs.PositionLemmas.{parts-few}

-- ---- bytes between others

piece-there : (front piece rest : List ℕ) (at n : ℕ) → at ≡ length front → length piece ≡ n → part at n ((front ++ piece) ++ rest) ≡ piece
piece-there front piece rest at n place long =
    ap (λ (k : ℕ). part k n ((front ++ piece) ++ rest)) place
    ∙ ap (λ (k : ℕ). part (length front) k ((front ++ piece) ++ rest)) (sym long)
    ∙ ap (take (length piece)) (ap (drop (length front)) (append_assoc front piece rest) ∙ drop-append_seam front (piece ++ rest))
    ∙ take-append_seam piece rest

piece-within : (front piece rest : List ℕ) (at n : ℕ) → at ≡ length front → length piece ≡ n → at + n ≤ length ((front ++ piece) ++ rest)
piece-within front piece rest at n place long =
    let whole : length ((front ++ piece) ++ rest) ≡ length (front ++ piece) + length rest = length-append (front ++ piece) rest in
    let first : length (front ++ piece) ≡ length front + length piece = length-append front piece in
    omega (arith, whole, first, place, long)

piece-behind : (front piece : List ℕ) (at n : ℕ) → at ≡ length front → length piece ≡ n → at + n ≡ length (front ++ piece)
piece-behind front piece at n place long = (let first : length (front ++ piece) ≡ length front + length piece = length-append front piece in omega (arith, first, place, long))

part-long : (offset n : ℕ) (image : List ℕ) → offset + n ≤ length image → length (part offset n image) ≡ n
part-long offset n image within =
    let behind : length (drop offset image) ≡ length image - offset = length-drop offset image in
    length-take-le n (drop offset image) (omega (arith, within, behind))

-- a field stands there with a value
field-stands : (t : FieldType) (front piece rest : List ℕ) (at : ℕ) → IsFieldType t → at ≡ length front → length piece ≡ width t → is_some (held t piece) ≡ true
    → HasField t at ((front ++ piece) ++ rest)
field-stands t front piece rest at allowed place long some = record {
  allowed = allowed;
  within = piece-within front piece rest at (width t) place long;
  there = ap (λ (bytes : List ℕ). is_some (held t bytes)) (piece-there front piece rest at (width t) place long) ∙ some;
}

-- ---- the key fields of a record

key_fields-first : (fields : List ViewField) (p : KeyPart) (parts : List KeyPart) (f : ViewField) → field_of_part fields p ≡ Some f
    → key_fields fields (p ∷ parts) ≡ f ∷ key_fields fields parts
key_fields-first fields p parts f found = ap (λ (o : Option ViewField). cons_option o (key_fields fields parts)) found

module _ (fields : List Field) (lies : lies_from 0 fields ≡ true) (image : List ℕ) (is : IsRecord fields image) where
  -- a field of the key lies within the record
  part-within : (t : FieldType) (offset : ℕ) → offset + width t ≤ 0 + record_length fields → offset + width t ≤ length image
  part-within t offset within = (let long : length image ≡ record_length fields = is.long in omega (arith, long, within))

  fields-shown : (parts : List KeyPart) → AllByRecursion (IsPartOf fields) parts → AllByRecursion (HasShown image) (key_fields (own_fields fields) parts)
  fields-shown [] all = tt
  fields-shown (KeyField t offset descend absval ∷ parts) all =
      let here = lies-in 0 fields t offset lies all.0 in
      let shown : HasShown image (copied_at t offset) = record { allowed = here.allowed; source = part-within t offset here.within } in
      subst (λ (fs : List ViewField). AllByRecursion (HasShown image) fs)
      (sym (key_fields-first (own_fields fields) (KeyField t offset descend absval) parts (copied_at t offset) here.found)) (shown, fields-shown parts all.1)
  fields-shown (Absent ∷ parts) all = absurd all.0

  keys-stand : (parts : List KeyPart) → AllByRecursion (IsPartOf fields) parts → (front : List ℕ) (at : ℕ) → at ≡ length front
      → AllByRecursion (λ p. HasPosition p (front ++ view_of (key_fields (own_fields fields) parts) image)) (key_parts at parts)
  keys-stand [] all front at place = tt
  keys-stand (KeyField t offset descend absval ∷ parts) all front at place =
      let here = lies-in 0 fields t offset lies all.0 in
      let piece : List ℕ = part offset (width t) image in
      let rest : List ℕ = view_of (key_fields (own_fields fields) parts) image in
      let long : length piece ≡ width t = part-long offset (width t) image (part-within t offset here.within) in
      let cut : view_of (key_fields (own_fields fields) (KeyField t offset descend absval ∷ parts)) image ≡ piece ++ rest =
      ap (λ (fs : List ViewField). view_of fs image) (key_fields-first (own_fields fields) (KeyField t offset descend absval) parts (copied_at t offset) here.found) in
      let whole : (front ++ piece) ++ rest ≡ front ++ view_of (key_fields (own_fields fields) (KeyField t offset descend absval ∷ parts)) image =
      append_assoc front piece rest ∙ ap (λ (bytes : List ℕ). front ++ bytes) (sym cut) in
      let first : HasField t at ((front ++ piece) ++ rest) = field-stands t front piece rest at here.allowed place long (here.value image (fields-there fields image is.held)) in
      let more : AllByRecursion (λ p. HasPosition p ((front ++ piece) ++ rest)) (key_parts (at + width t) parts) =
      keys-stand parts all.1 (front ++ piece) (at + width t) (piece-behind front piece at (width t) place long) in
      subst (λ (bytes : List ℕ). AllByRecursion (λ p. HasPosition p bytes) (key_parts at (KeyField t offset descend absval ∷ parts))) whole (first, more)
  keys-stand (Absent ∷ parts) all front at place = absurd all.0

-- ---- one record

has-key : (spec : PhysicalSpec) (image : List ℕ) → IsKeyed spec → IsRecord spec.format.fields image
    → HasKey (key_parts 0 spec.keys.parts) (view_of (key_fields (own_fields spec.format.fields) spec.keys.parts) image)
has-key spec image keyed is =
    All-from_recursion (λ p. HasPosition p (view_of (key_fields (own_fields spec.format.fields) spec.keys.parts) image)) (key_parts 0 spec.keys.parts)
    (keys-stand spec.format.fields keyed.laid.lies image is spec.keys.parts (parts-of spec keyed) [] 0 refl)

askable : (spec : PhysicalSpec) (member : ℕ) (image : List ℕ) → IsKeyed spec → IsRecord spec.format.fields image
    → IsAskable (path_format member every_record (own_fields spec.format.fields) spec.keys.parts) image
askable spec member image keyed is = record {
  compared = tt;
  shown = fields-shown spec.format.fields keyed.laid.lies image is spec.keys.parts (parts-of spec keyed);
  few = parts-few spec keyed;
  key = has-key spec image keyed is;
}

-- ---- the key of a record is the same by the positions of its file

module _ (fields : List Field) (lies : lies_from 0 fields ≡ true) (image : List ℕ) (long : length image ≡ record_length fields) (held_in : is_some (record_held fields image) ≡ true) where
  within-image : (t : FieldType) (offset : ℕ) → offset + width t ≤ 0 + record_length fields → offset + width t ≤ length image
  within-image t offset within = omega (arith, long, within)

  own-positions : (parts : List KeyPart) → AllByRecursion (IsPartOf fields) parts → AllByRecursion (λ p. HasPosition p image) parts
  own-positions [] all = tt
  own-positions (KeyField t offset descend absval ∷ parts) all =
      let here = lies-in 0 fields t offset lies all.0 in
      let own : HasField t offset image = record {
        allowed = here.allowed;
        within = within-image t offset here.within;
        there = here.value image (fields-there fields image held_in);
      } in
      (own, own-positions parts all.1)
  own-positions (Absent ∷ parts) all = absurd all.0

  keys-same : (parts : List KeyPart) → AllByRecursion (IsPartOf fields) parts → (front : List ℕ) (at : ℕ) → at ≡ length front
      → key_of (key_parts at parts) (front ++ view_of (key_fields (own_fields fields) parts) image) ≡ key_of parts image
  keys-same [] all front at place = refl
  keys-same (KeyField t offset descend absval ∷ parts) all front at place =
      let here = lies-in 0 fields t offset lies all.0 in
      let piece : List ℕ = part offset (width t) image in
      let rest : List ℕ = view_of (key_fields (own_fields fields) parts) image in
      let piece-long : length piece ≡ width t = part-long offset (width t) image (within-image t offset here.within) in
      let cut : view_of (key_fields (own_fields fields) (KeyField t offset descend absval ∷ parts)) image ≡ piece ++ rest =
      ap (λ (fs : List ViewField). view_of fs image) (key_fields-first (own_fields fields) (KeyField t offset descend absval) parts (copied_at t offset) here.found) in
      let whole : (front ++ piece) ++ rest ≡ front ++ view_of (key_fields (own_fields fields) (KeyField t offset descend absval ∷ parts)) image =
      append_assoc front piece rest ∙ ap (λ (bytes : List ℕ). front ++ bytes) (sym cut) in
      let more : key_of (key_parts (at + width t) parts) ((front ++ piece) ++ rest) ≡ key_of parts image =
      keys-same parts all.1 (front ++ piece) (at + width t) (piece-behind front piece at (width t) place piece-long) in
      let first : part at (width t) ((front ++ piece) ++ rest) ≡ piece = piece-there front piece rest at (width t) place piece-long in
      ap (key_of (key_parts at (KeyField t offset descend absval ∷ parts))) (sym whole)
      ∙ (λ i. at_position descend absval (held t (first i)) ∷ more i)
  keys-same (Absent ∷ parts) all front at place = absurd all.0

-- in a record each position of the file's key has a value
pub has-own-key : (spec : PhysicalSpec) (image : List ℕ) → IsKeyed spec → length image ≡ record_length spec.format.fields → is_some (record_held spec.format.fields image) ≡ true → HasKey spec.keys.parts image
has-own-key spec image keyed long held_in =
    All-from_recursion (λ p. HasPosition p image) spec.keys.parts (own-positions spec.format.fields keyed.laid.lies image long held_in spec.keys.parts (parts-of spec keyed))

-- and its key there is that of the path
pub own-key : (spec : PhysicalSpec) (image : List ℕ) → IsKeyed spec → length image ≡ record_length spec.format.fields → is_some (record_held spec.format.fields image) ≡ true
    → key_of (key_parts 0 spec.keys.parts) (view_of (key_fields (own_fields spec.format.fields) spec.keys.parts) image) ≡ key_of spec.keys.parts image
own-key spec image keyed long held_in = keys-same spec.format.fields keyed.laid.lies image long held_in spec.keys.parts (parts-of spec keyed) [] 0 refl

-- what holds of the format holds of each of the path
only-format : (P : PathFormat → Type 0) (spec : PhysicalSpec) (member : ℕ) → P (path_format member every_record (own_fields spec.format.fields) spec.keys.parts)
    → All P (physical_path member spec.format.fields spec.keys).formats
only-format P spec member holds = All-from_recursion P (physical_path member spec.format.fields spec.keys).formats (holds, tt)

pub image-taken : (spec : PhysicalSpec) (member : ℕ) (image : List ℕ) → IsKeyed spec → IsRecord spec.format.fields image
    → TakesImage member (Some image) (physical_path member spec.format.fields spec.keys)
image-taken spec member image keyed is = only-format (λ (format : PathFormat). format.member ≡ member → IsAskable format image) spec member (λ same. askable spec member image keyed is)

-- ---- the records of a member

slot-taken : (spec : PhysicalSpec) (member : ℕ) → IsKeyed spec → (slot : Slot) → IsRecordSlot spec.format.fields slot
    → TakesSlot (CanBeAsked (physical_path member spec.format.fields spec.keys).formats 0) slot
slot-taken spec member keyed (Live image) is = askable spec member image keyed is
slot-taken spec member keyed Deleted is = tt

pub path-kept : (spec : PhysicalSpec) (member : ℕ) (members : NumberedMembers) → IsKeyed spec → HasRecordsOf spec.format.fields member members
    → CanBeKept (physical_path member spec.format.fields spec.keys) members
path-kept spec member members keyed records = record {
  few = (let one : 1 ≤ 65535 = omega arith in one);
  asked = (
    All-from_recursion (TakesSlot (CanBeAsked (physical_path member spec.format.fields spec.keys).formats 0)) (member_of member members).slots
        (weaker (IsRecordSlot spec.format.fields) (TakesSlot (CanBeAsked (physical_path member spec.format.fields spec.keys).formats 0)) (slot-taken spec member keyed) (member_of member members).slots
        (recursion_from_All (IsRecordSlot spec.format.fields) (member_of member members).slots records)),
    tt,
  );
}

all-records : (fields : List Field) (slots : List Slot) (rrn : ℕ) → AllByRecursion (IsRecordSlot fields) slots → AllByRecursion (λ (pair : ℕ × List ℕ). IsRecord fields pair.1) (records_from rrn slots)
all-records fields [] rrn all = tt
all-records fields (Live image ∷ slots) rrn all = (all.0, all-records fields slots (rrn + 1) all.1)
all-records fields (Deleted ∷ slots) rrn all = all-records fields slots (rrn + 1) all.1

-- what follows of each record holds of those that the format selects
selected-records : (P : List ℕ → Type 0) (fields : List Field) (format : PathFormat) (member : ℕ) (members : NumberedMembers) → HasRecordsOf fields member members
    → ((image : List ℕ) → IsRecord fields image → P image) → All (λ (pair : ℕ × List ℕ). P pair.1) (selected_of format (member_of member members).slots)
selected-records P fields format member members records so =
    let each : AllByRecursion (λ (pair : ℕ × List ℕ). IsRecord fields pair.1) (records_from 1 (member_of member members).slots) =
    all-records fields (member_of member members).slots 1 (recursion_from_All (IsRecordSlot fields) (member_of member members).slots records) in
    All-from_recursion (λ (pair : ℕ × List ℕ). P pair.1) (selected_of format (member_of member members).slots)
    (all-filter (λ (pair : ℕ × List ℕ). P pair.1) (λ pair. selects format.rules pair.1) (records_from 1 (member_of member members).slots)
    (weaker (λ (pair : ℕ × List ℕ). IsRecord fields pair.1) (λ (pair : ℕ × List ℕ). P pair.1) (λ pair is. so pair.1 is) (records_from 1 (member_of member members).slots) each))

bytes-shown : (fields : List ViewField) (image : List ℕ) → AreBytes image → AreBytes (view_of fields image)
bytes-shown fields image bytes = All-from_recursion (λ b. b < 256) (view_of fields image) (view-bytes fields image (recursion_from_All (λ b. b < 256) image bytes))

one-matches : (format : PathFormat) → AllPairs Matches (map (λ (f : PathFormat). f.key) (format ∷ []))
one-matches format i j d before within = absurd (let first : j < 1 = within in omega (arith, before, first))

pub path-bytes : (spec : PhysicalSpec) (member : ℕ) (members : NumberedMembers) → IsKeyed spec → HasRecordsOf spec.format.fields member members
    → IsInBytes (physical_path member spec.format.fields spec.keys) members
path-bytes spec member members keyed records = record {
  match = one-matches (path_format member every_record (own_fields spec.format.fields) spec.keys.parts);
  shown = only-format (ShowsBytes members) spec member
      (selected-records (λ image. AreBytes (view_of (key_fields (own_fields spec.format.fields) spec.keys.parts) image)) spec.format.fields
      (path_format member every_record (own_fields spec.format.fields) spec.keys.parts) member members records
      (λ image is. bytes-shown (key_fields (own_fields spec.format.fields) spec.keys.parts) image is.bytes));
}

no-less : (n : ℕ) → n ≤ n
no-less n = omega arith

pub keys-within : (spec : PhysicalSpec) (member : ℕ) (members : NumberedMembers) → IsKeyed spec → HasRecordsOf spec.format.fields member members
    → All (HasKeysWithin (key_width (key_parts 0 spec.keys.parts)) members) (physical_path member spec.format.fields spec.keys).formats
keys-within spec member members keyed records = only-format (HasKeysWithin (key_width (key_parts 0 spec.keys.parts)) members) spec member (record {
  width = no-less (key_width (key_parts 0 spec.keys.parts));
  keys = selected-records (λ image. HasKey (key_parts 0 spec.keys.parts) (view_of (key_fields (own_fields spec.format.fields) spec.keys.parts) image)) spec.format.fields
      (path_format member every_record (own_fields spec.format.fields) spec.keys.parts) member members records (λ image is. has-key spec image keyed is);
})
