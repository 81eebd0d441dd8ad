-- Through which logical formats can values be given, and in which steps are they put? (DDS for Physical and Logical Files:
-- "CONCAT", "SST", "Data type" of a logical field. The steps are our own.)
use Rattle.std.specs.Prelude.{◌≡◌, ℕ, ◌+◌, ◌≤◌, List, [], ◌∷◌, Option, Some, None}
use Rattle.std.specs.List.{AllByRecursion}
use Rattle.field_types.specs.declared.kinds.FieldType.{FieldType}
use Rattle.field_types.specs.declared.values.Value.{Value}
use Rattle.field_types.specs.declared.faults.ValueFault.{ValueFault}
use Rattle.field_types.specs.declared.faults.RecordFault.{RecordFault}
use Rattle.field_types.specs.declared.faults.RecordFault.TheVariants.{BadField}
use Rattle.field_values.specs.FieldTypes.{IsFieldType, width}
use Rattle.field_values.specs.FieldBytes.{fault_of}
use Rattle.file_model.below.record_fmt.specs.declared.formats.Field.{Field}
use Rattle.file_model.specs.declared.views.Piece.{Piece}
use Rattle.file_model.specs.declared.views.FieldSource.{FieldSource}
use Rattle.file_model.specs.declared.views.FieldSource.TheVariants.{Copied, Converted, Concatenated, Substring}
use Rattle.file_model.specs.declared.views.LogicalField.{LogicalField}
use Rattle.file_model.specs.Views.{stored_type, put_value, refusal}

-- the field takes its own default value
abbrev pub HasDefault : Field → Type 0
HasDefault f = fault_of f.ty f.default ≡ None

-- the piece lies within so many bytes
abbrev pub EndsWithin : ℕ → Piece → Type 0
EndsWithin bytes p = p.offset + p.length ≤ bytes

-- what is stored lies within a record of so many bytes
abbrev pub HasPlace : ℕ → FieldType → FieldSource → Type 0
HasPlace bytes t (Copied offset) = offset + width t ≤ bytes
HasPlace bytes t (Converted from offset) = offset + width from ≤ bytes
HasPlace bytes t (Concatenated pieces) = AllByRecursion (EndsWithin bytes) pieces
HasPlace bytes t (Substring piece) = Unit {0}

-- the field and what is stored for it are of types that a data description can give
pub record IsAllowed (f : LogicalField) : Type 0 where
  pub field : IsFieldType f.field.ty
  pub stored : IsFieldType (stored_type f.field.ty f.field.source)

-- a value can be stored through the field in a record of so many bytes
pub record IsStored (bytes : ℕ) (f : LogicalField) : Type 0 where
  pub allowed : IsAllowed f
  pub place : HasPlace bytes f.field.ty f.field.source

-- ---- the steps

abbrev pub refused_by : LogicalField → Option Value → Option ValueFault
refused_by f None = None
refused_by f (Some v) = refusal f v

abbrev pub fault_before : ℕ → Option ValueFault → Option RecordFault → Option RecordFault
fault_before number (Some cause) rest = Some (BadField number cause)
fault_before number None rest = rest

-- the first refusal, of fields the first of which has this number
abbrev pub first_refused : ℕ → List LogicalField → List (Option Value) → Option RecordFault
first_refused number [] given = None
first_refused number (f ∷ fields) [] = None
first_refused number (f ∷ fields) (v ∷ given) = fault_before number (refused_by f v) (first_refused (number + 1) fields given)

abbrev pub with_value : LogicalField → Option Value → List ℕ → List ℕ
with_value f None image = image
with_value f (Some v) image = put_value f.field.ty f.field.source v image

-- a record with the values in their places, one put after another
abbrev pub with_values : List LogicalField → List (Option Value) → List ℕ → List ℕ
with_values [] given image = image
with_values (f ∷ fields) [] image = image
with_values (f ∷ fields) (v ∷ given) image = with_values fields given (with_value f v image)
