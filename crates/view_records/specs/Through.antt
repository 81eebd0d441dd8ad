-- Through which formats of a logical file can records be read and written? (DDS for Physical and Logical Files, record format level,
-- "CONCAT", "SST". That what is shown is said of one base file's fields is our own.)
use Rattle.std.specs.Prelude.{◌≡◌, ℕ, ◌+◌, ◌≤◌, true, List, [], ◌∷◌, length, Option}
use Rattle.std.specs.List.{AllByRecursion}
use Rattle.field_types.specs.declared.values.Value.{Value}
use Rattle.field_values.specs.FieldTypes.{width}
use Rattle.record_fmt.specs.declared.formats.Field.{Field}
use Rattle.record_fmt.specs.Layout.{lies_from}
use Rattle.file_model.specs.declared.views.FieldSource.{FieldSource}
use Rattle.file_model.specs.declared.views.FieldSource.TheVariants.{Copied, Converted, Concatenated, Substring}
use Rattle.file_model.specs.declared.views.LogicalField.{LogicalField}
use Rattle.file_model.specs.Views.{field_value}
use Rattle.logical_paths.specs.Shown.{HasValue}
use Rattle.logical_model.below.dds_logical.specs.declared.views.View.{View}
use Rattle.logical_model.below.dds_logical.specs.declared.views.LogicalSpec.{LogicalSpec}
use Rattle.logical_model.below.dds_logical.specs.declared.views.LogicalSpec.TheVariants.{Simple, Multi, Join}
use Rattle.logical_paths.specs.Mapped.{HoldDefaults}
use Rattle.logical_paths.specs.KeyedFiles.{IsRecord}
use Rattle.logical_paths.specs.Steps.{shown_of}
use Rattle.logical_paths.specs.KeyedViews.{IsShownOf}

-- ---- formats

-- a field of the format has the type of what it shows, and begins at this byte
pub record IsFieldOf (at : ℕ) (f : Field) (shown : LogicalField) : Type 0 where
  pub ty : f.ty ≡ shown.field.ty
  pub place : f.offset ≡ at

-- so do fields that lie one behind another from this byte on
abbrev pub AreFieldsOf : ℕ → List Field → List LogicalField → Type 0
AreFieldsOf at [] [] = Unit {0}
AreFieldsOf at [] (shown ∷ mapping) = ⊥
AreFieldsOf at (f ∷ fields) [] = ⊥
AreFieldsOf at (f ∷ fields) (shown ∷ mapping) = IsFieldOf at f shown × AreFieldsOf (at + width f.ty) fields mapping

-- the fields of the view's format are those of what it shows, in their order
pub record IsFormatOf (view : View) : Type 0 where
  pub fields : AreFieldsOf 0 view.format.fields view.mapping

-- what a field is made of has a byte: CONCAT names a field at least, and a part of a field has a character
abbrev pub HasBytes : FieldSource → Type 0
HasBytes (Copied offset) = Unit {0}
HasBytes (Converted from offset) = Unit {0}
HasBytes (Concatenated pieces) = 1 ≤ length pieces
HasBytes (Substring piece) = 1 ≤ piece.length

abbrev pub HaveBytes : List LogicalField → Type 0
HaveBytes mapping = AllByRecursion (λ f. HasBytes f.field.source) mapping

-- ---- records

-- the image is a record of a base file of whose fields the view shows values
pub record IsReadThrough (view : View) (image : List ℕ) : Type 0 where
  pub base : List Field
  pub lies : lies_from 0 base ≡ true
  pub fields : AllByRecursion (IsShownOf base) (shown_of view.mapping)
  pub is : IsRecord base image

-- the value that the record shows in the field
abbrev pub value_in : List ℕ → LogicalField → Option Value
value_in image f = field_value image f.field

-- there is one
abbrev pub HasValueIn : List ℕ → LogicalField → Type 0
HasValueIn image f = HasValue image f.field

-- records with these fields can be made of values that are given through the view
pub record IsWrittenThrough (base : List Field) (view : View) : Type 0 where
  pub fields : AllByRecursion (IsShownOf base) (shown_of view.mapping)
  pub bytes : HaveBytes view.mapping
  pub defaults : HoldDefaults base

-- ---- files

-- each format of the file is such; a join's isn't read or written so
abbrev pub HasFormats : LogicalSpec → Type 0
HasFormats (Simple view) = IsFormatOf view
HasFormats (Multi views) = AllByRecursion IsFormatOf views
HasFormats (Join view) = Unit {0}

abbrev pub HasBytesIn : LogicalSpec → Type 0
HasBytesIn (Simple view) = HaveBytes view.mapping
HasBytesIn (Multi views) = AllByRecursion (λ (view : View). HaveBytes view.mapping) views
HasBytesIn (Join view) = Unit {0}
