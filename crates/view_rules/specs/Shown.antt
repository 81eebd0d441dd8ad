-- Which records can be shown through fields of a logical file, and which can be tested by rules? (DDS for Physical and
-- Logical Files: "CONCAT", "SST", "Data type" of a logical field. That fields lie within the record is our own.)
use Rattle.std.specs.Prelude.{◌≡◌, ℕ, ◌+◌, ◌≤◌, true, List, length, Option, Some, None, is_some}
use Rattle.std.specs.List.{AllByRecursion}
use Rattle.field_types.specs.declared.kinds.FieldType.{FieldType}
use Rattle.field_types.specs.declared.kinds.Kind.TheVariants.{Char}
use Rattle.field_types.specs.declared.values.Value.{Value}
use Rattle.field_values.specs.FieldTypes.{IsFieldType, width}
use Rattle.field_values.specs.FieldBytes.{held, fault_of}
use Rattle.field_values.specs.FirstBad.{part}
use Rattle.file_model.specs.declared.views.Piece.{Piece}
use Rattle.file_model.specs.declared.views.FieldSource.{FieldSource}
use Rattle.file_model.specs.declared.views.FieldSource.TheVariants.{Copied, Converted, Concatenated, Substring}
use Rattle.file_model.specs.declared.views.ViewField.{ViewField}
use Rattle.file_model.specs.declared.rules.Test.{Test}
use Rattle.file_model.specs.declared.rules.Test.TheVariants as tests
use Rattle.file_model.specs.declared.rules.Condition.{Condition}
use Rattle.file_model.specs.declared.rules.Statement.{Statement}
use Rattle.file_model.specs.declared.rules.Rules.{Rules}
use Rattle.file_model.specs.Views.{pieces_length, field_value}

-- the bytes lie within the image
abbrev pub IsWithin : List ℕ → Piece → Type 0
IsWithin image p = p.offset + p.length ≤ length image

-- the value is there, and fits a field of this type
abbrev pub IsTaken : FieldType → Option Value → Type 0
IsTaken t None = ⊥
IsTaken t (Some v) = fault_of t v ≡ None

-- a value stands in the field of the record, and fits the field that shows it
pub record IsConverted (t from : FieldType) (offset : ℕ) (image : List ℕ) : Type 0 where
  pub allowed : IsFieldType from
  pub within : offset + width from ≤ length image
  pub taken : IsTaken t (held from (part offset (width from) image))

-- the pieces are those of a character field that has room for them
pub record ArePieces (t : FieldType) (pieces : List Piece) (image : List ℕ) : Type 0 where
  pub characters : t.kind ≡ Char
  pub within : AllByRecursion (IsWithin image) pieces
  pub room : pieces_length pieces ≤ width t

pub record IsPiece (t : FieldType) (piece : Piece) (image : List ℕ) : Type 0 where
  pub characters : t.kind ≡ Char
  pub within : IsWithin image piece
  pub room : piece.length ≤ width t

abbrev pub HasSource : FieldType → FieldSource → List ℕ → Type 0
HasSource t (Copied offset) image = offset + width t ≤ length image
HasSource t (Converted from offset) image = IsConverted t from offset image
HasSource t (Concatenated pieces) image = ArePieces t pieces image
HasSource t (Substring piece) image = IsPiece t piece image

-- the record has what the field shows
pub record HasShown (image : List ℕ) (f : ViewField) : Type 0 where
  pub allowed : IsFieldType f.ty
  pub source : HasSource f.ty f.source image

-- and shows a value there
pub record HasValue (image : List ℕ) (f : ViewField) : Type 0 where
  pub shown : HasShown image f
  pub there : is_some (field_value image f) ≡ true

abbrev pub HasTested : List ℕ → Test → Type 0
HasTested image (tests.Literal relation literal) = Unit {0}
HasTested image (tests.Field relation other) = HasValue image other
HasTested image (tests.Range low high) = Unit {0}
HasTested image (tests.Values values) = Unit {0}

pub record HasCondition (image : List ℕ) (condition : Condition) : Type 0 where
  pub field : HasValue image condition.field
  pub tested : HasTested image condition.test

abbrev pub HasConditions : List ℕ → Statement → Type 0
HasConditions image statement = AllByRecursion (HasCondition image) statement.conditions

-- the record shows a value in each field that the rules compare
abbrev pub HasCompared : Rules → List ℕ → Type 0
HasCompared rules image = AllByRecursion (HasConditions image) rules.statements
