-- The records of a base file can stand in a format that is by its fields.
use Rattle.std.proofs.Common.{◌≡◌, ℕ, suc, ◌+◌, ◌<◌, ◌≤◌, Option, Some, List, [], ◌∷◌, length, slice_get, sym, ◌∙◌, ap, subst, arith}
use Rattle.std.specs.Prelude.{All, IfSome}
use Rattle.std.specs.List.{AllByRecursion}
use Rattle.std.proofs.lemmas.List.Elements.{All-from_recursion, recursion_from_All}
use Rattle.member_slots.specs.declared.slot.Slot.{Slot}
use Rattle.member_slots.specs.declared.slot.Slot.TheVariants.{Live, Deleted}
use Rattle.member_slots.specs.Member.{records_from}
use Rattle.member_slots.specs.Members.{NumberedMembers, member_of}
use Rattle.file_model.below.record_fmt.specs.declared.formats.Field.{Field}
use Rattle.file_model.specs.Layout.{IsLaidOut}
use Rattle.access_path.below.key_order.specs.declared.widths.TheConstants.{MOST_POSITIONS}
use Rattle.access_path.specs.KeyFields.{AreBytes, HasKey, key_width}
use Rattle.access_path.proofs.ViewLemmas.{view-bytes}
use Rattle.file_model.specs.declared.paths.PathFormat.{PathFormat}
use Rattle.file_model.specs.declared.paths.PathSpec.{PathSpec}
use Rattle.file_model.specs.declared.views.ViewField.{ViewField}
use Rattle.file_model.specs.Paths.{selected_of}
use Rattle.file_model.specs.Selection.{selects}
use Rattle.file_model.specs.Views.{view_of}
use Rattle.file_model.proofs.PathLemmas.{weaker, all-filter}
use Rattle.view_rules.specs.Shown.{HasShown}
use Rattle.access_path.specs.PathBytes.{ShowsBytes, members_of}
use Rattle.access_path.specs.Rebuilding.{TakesSlot, TakesAll, member_slots}
use Rattle.path_entrants.specs.declared.entrant.TheConstants.{MOST_FORMATS}
use Rattle.path_entrants.specs.Formats.{IsAskable, CanBeAsked}
use Rattle.physical_paths.specs.Sharing.{CanBeKept}
use Rattle.physical_paths.specs.PositionBytes.{HasKeysWithin}
use Rattle.physical_paths.specs.KeyedFiles.{IsRecord, IsRecordSlot, HasRecordsOf}
use Rattle.logical_paths.specs.KeyedViews.{IsShownOf, AreRulesOver}
use Rattle.logical_paths.proofs.ShownLemmas.{ShowsValue, shown-value, rules-compared}
use Rattle.logical_paths.proofs.KeyLemmas.{AreBehind, key-stands}

-- the format is by fields of this base file
pub record IsFormatOver (base : List Field) (format : PathFormat) : Type 0 where
  pub laid : IsLaidOut base
  pub rules : AreRulesOver base format.rules
  pub fields : AllByRecursion (IsShownOf base) format.fields
  pub behind : AreBehind 0 format.key format.fields
  pub few : length format.key ≤ MOST_POSITIONS

-- ---- one record

has-key : (base : List Field) (format : PathFormat) (image : List ℕ) → IsFormatOver base format → IsRecord base image → HasKey format.key (view_of format.fields image)
has-key base format image over is =
    key-stands image format.key format.fields over.behind (weaker (IsShownOf base) (ShowsValue image) (shown-value base over.laid.lies image is) format.fields over.fields)

pub askable : (base : List Field) (format : PathFormat) (image : List ℕ) → IsFormatOver base format → IsRecord base image → IsAskable format image
askable base format image over is = record {
  compared = rules-compared base over.laid.lies image is format.rules over.rules;
  shown = weaker (IsShownOf base) (HasShown image) (λ f of. (shown-value base over.laid.lies image is f of).shown) format.fields over.fields;
  few = over.few;
  key = has-key base format image over is;
}

-- ---- the records of a member

-- the format is by fields of a base file, whose records stand in its member
pub record IsFilled (members : NumberedMembers) (format : PathFormat) : Type 0 where
  pub base : List Field
  pub over : IsFormatOver base format
  pub records : HasRecordsOf base format.member members

all-records : (base : List Field) (slots : List Slot) (rrn : ℕ) → AllByRecursion (IsRecordSlot base) slots → AllByRecursion (λ (pair : ℕ × List ℕ). IsRecord base pair.1) (records_from rrn slots)
all-records base [] rrn all = tt
all-records base (Live image ∷ slots) rrn all = (all.0, all-records base slots (rrn + 1) all.1)
all-records base (Deleted ∷ slots) rrn all = all-records base slots (rrn + 1) all.1

-- what follows of each record holds of those that the format selects
selected-records : (P : List ℕ → Type 0) (members : NumberedMembers) (format : PathFormat) (filled : IsFilled members format) → ((image : List ℕ) → IsRecord filled.base image → P image)
    → All (λ (pair : ℕ × List ℕ). P pair.1) (selected_of format (member_of format.member members).slots)
selected-records P members format filled so =
    let slots : List Slot = (member_of format.member members).slots in
    let each : AllByRecursion (λ (pair : ℕ × List ℕ). IsRecord filled.base pair.1) (records_from 1 slots) =
    all-records filled.base slots 1 (recursion_from_All (IsRecordSlot filled.base) slots filled.records) in
    All-from_recursion (λ (pair : ℕ × List ℕ). P pair.1) (selected_of format slots)
    (all-filter (λ (pair : ℕ × List ℕ). P pair.1) (λ pair. selects format.rules pair.1) (records_from 1 slots)
    (weaker (λ (pair : ℕ × List ℕ). IsRecord filled.base pair.1) (λ (pair : ℕ × List ℕ). P pair.1) (λ pair is. so pair.1 is) (records_from 1 slots) each))

bytes-shown : (fields : List ViewField) (image : List ℕ) → AreBytes image → AreBytes (view_of fields image)
bytes-shown fields image bytes = All-from_recursion (λ b. b < 256) (view_of fields image) (view-bytes fields image (recursion_from_All (λ b. b < 256) image bytes))

pub shows-bytes : (members : NumberedMembers) (format : PathFormat) → IsFilled members format → ShowsBytes members format
shows-bytes members format filled =
    selected-records (λ image. AreBytes (view_of format.fields image)) members format filled (λ image is. bytes-shown format.fields image is.bytes)

no-less : (n : ℕ) → n ≤ n
no-less n = omega arith

pub keys-within : (members : NumberedMembers) (format : PathFormat) → IsFilled members format → HasKeysWithin (key_width format.key) members format
keys-within members format filled = record {
  width = no-less (key_width format.key);
  keys = selected-records (λ image. HasKey format.key (view_of format.fields image)) members format filled (λ image is. has-key filled.base format image filled.over is);
}

-- ---- a path

-- the format of this number can be asked about each record of its member
format-asked : (members : NumberedMembers) (formats : List PathFormat) (number : ℕ) (format : PathFormat) → slice_get formats number ≡ Some format → IsFilled members format
    → All (TakesSlot (CanBeAsked formats number)) (member_of format.member members).slots
format-asked members formats number format at filled =
    All-from_recursion (TakesSlot (CanBeAsked formats number)) (member_of format.member members).slots
    (weaker (IsRecordSlot filled.base) (TakesSlot (CanBeAsked formats number)) taken (member_of format.member members).slots
    (recursion_from_All (IsRecordSlot filled.base) (member_of format.member members).slots filled.records))
  where
    taken : (slot : Slot) → IsRecordSlot filled.base slot → TakesSlot (CanBeAsked formats number) slot
    taken (Live image) is = subst (λ (o : Option PathFormat). IfSome o (λ other. IsAskable other image)) (sym at) (askable filled.base format image filled.over is)
    taken Deleted is = tt

rest-asked : (members : NumberedMembers) (formats rest : List PathFormat) (number : ℕ) → ((i : ℕ) → slice_get formats (number + i) ≡ slice_get rest i) → AllByRecursion (IsFilled members) rest
    → TakesAll (CanBeAsked formats) number (member_slots (members_of rest) members)
rest-asked members formats [] number at all = tt
rest-asked members formats (format ∷ rest) number at all =
    let start : number + 0 ≡ number = omega arith in
    let here : slice_get formats number ≡ Some format = ap (slice_get formats) (sym start) ∙ at 0 in (
      format-asked members formats number format here all.0,
      rest-asked members formats rest (number + 1)
          (λ i. (let place : number + 1 + i ≡ number + suc i = omega arith in ap (slice_get formats) place ∙ at (suc i))) all.1,
    )

same-place : (formats : List PathFormat) (i : ℕ) → slice_get formats (0 + i) ≡ slice_get formats i
same-place formats i = (let same : 0 + i ≡ i = omega arith in ap (slice_get formats) same)

pub path-kept : (members : NumberedMembers) (path : PathSpec) → length path.formats ≤ MOST_FORMATS → AllByRecursion (IsFilled members) path.formats → CanBeKept path members
path-kept members path few all = record { few = few; asked = rest-asked members path.formats path.formats 0 (same-place path.formats) all }
