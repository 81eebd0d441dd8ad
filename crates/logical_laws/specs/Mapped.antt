-- What a logical file stores lies in whole fields of its base files' records. (DDS for Physical and Logical Files, "CONCAT", "SST".)
use Rattle.std.specs.Prelude.{◌≡◌, ℕ, None, Option, Some, List, Contains}
use Rattle.std.specs.List.{AllByRecursion}
use Rattle.field_types.specs.declared.kinds.Kind.TheVariants.{Char}
use Rattle.field_types.specs.declared.kinds.FieldType.{FieldType}
use Rattle.field_laws.specs.FieldBytes.{fault_of}
use Rattle.file_model.below.record_fmt.specs.declared.formats.Field.{Field}
use Rattle.file_model.specs.declared.views.FieldSource.{FieldSource}
use Rattle.file_model.specs.declared.views.FieldSource.TheVariants.{Copied, Converted, Concatenated, Substring}
use Rattle.file_model.specs.declared.views.LogicalField.{LogicalField}
use Rattle.file_model.specs.declared.views.Piece.{Piece}
use Rattle.dds_physical.specs.declared.physical_files.PhysicalSpec.{PhysicalSpec}
use Rattle.logical_model.below.dds_logical.specs.declared.views.View.{View}
use Rattle.logical_model.below.dds_logical.specs.declared.views.LogicalSpec.{LogicalSpec}
use Rattle.logical_model.below.dds_logical.specs.declared.views.LogicalSpec.TheVariants.{Simple, Multi, Join}
use Rattle.logical_model.specs.Bases.{Bases, base_names}

-- a field of this type begins at this byte of a record
pub record IsFieldAt (fields : List Field) (t : FieldType) (offset : ℕ) : Type 0 where
  pub field : Field
  pub among : Contains fields field
  pub ty : field.ty ≡ t
  pub at : field.offset ≡ offset

-- a character field begins where the piece does, and is as long
pub record IsTextAt (fields : List Field) (piece : Piece) : Type 0 where
  pub field : Field
  pub among : Contains fields field
  pub kind : field.ty.kind ≡ Char
  pub long : field.ty.length ≡ piece.length
  pub at : field.offset ≡ piece.offset

-- what is stored under a field of a format; a substring stores nothing
abbrev pub IsSourceMapped : List Field → FieldType → FieldSource → Type 0
IsSourceMapped fields t (Copied offset) = IsFieldAt fields t offset
IsSourceMapped fields t (Converted from offset) = IsFieldAt fields from offset
IsSourceMapped fields t (Concatenated pieces) = AllByRecursion (IsTextAt fields) pieces
IsSourceMapped fields t (Substring piece) = Unit {0}

abbrev pub IsFieldMapped : List Field → LogicalField → Type 0
IsFieldMapped fields f = IsSourceMapped fields f.field.ty f.field.source

abbrev pub IsViewMapped : Bases → View → Type 0
IsViewMapped bases view = AllByRecursion (IsFieldMapped (bases view.base).fields) view.mapping

-- nothing is stored through a join
abbrev pub IsSpecMapped : Bases → LogicalSpec → Type 0
IsSpecMapped bases (Simple view) = IsViewMapped bases view
IsSpecMapped bases (Multi views) = AllByRecursion (IsViewMapped bases) views
IsSpecMapped bases (Join view) = Unit {0}

-- the base files are those that a data description was read over
abbrev pub AreBasesOf : (List ℕ → Option PhysicalSpec) → Bases → Type 0
AreBasesOf described bases = (name : List ℕ) (spec : PhysicalSpec) → described name ≡ Some spec → (bases name).fields ≡ spec.format.fields

-- the default value of each field may stand in it
abbrev pub HoldDefaults : List Field → Type 0
HoldDefaults fields = AllByRecursion (λ f. fault_of f.ty f.default ≡ None) fields

-- two libraries have the same base files for a specification
abbrev pub AreSameBases : Bases → Bases → LogicalSpec → Type 0
AreSameBases bases other spec = AllByRecursion (λ name. bases name ≡ other name) (base_names spec)
