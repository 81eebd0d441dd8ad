-- Which values of a row does a join show? (DDS for Physical and Logical Files, join logical files; that fields of usage N aren't shown.)
use Rattle.std.specs.Prelude.{◌≡◌, ℕ, true, Option, List, [], ◌∷◌, if◌then◌else◌}
use Rattle.std.specs.List.{AllByRecursion}
use Rattle.field_types.specs.declared.values.Value.{Value}
use Rattle.record_fmt.specs.declared.formats.Field.{Field}
use Rattle.record_fmt.specs.Layout.{lies_from}
use Rattle.file_model.specs.Joins.{image_in}
use Rattle.file_model.specs.Views.{field_value}
use Rattle.dds_logical.specs.declared.join_views.JoinedField.{JoinedField}
use Rattle.dds_logical.specs.declared.join_views.JoinView.{JoinView}
use Rattle.dds_logical.specs.JoinLines.{fields_at}
use Rattle.logical_paths.specs.KeyedFiles.{IsRecord}
use Rattle.logical_paths.specs.Shown.{HasValue}
use Rattle.join_records.specs.Linked.{AreFieldsOf, IsShownFrom}

-- the value of a field in a row of these records
abbrev pub value_in : List (List ℕ) → JoinedField → Option Value
value_in images f = field_value (image_in f.field.file images) f.field.field

abbrev pub HasValueIn : List (List ℕ) → JoinedField → Type 0
HasValueIn images f = HasValue (image_in f.field.file images) f.field.field

-- those of the fields that are shown
abbrev pub visible_in : List (List ℕ) → List JoinedField → List (Option Value)
visible_in images [] = []
visible_in images (f ∷ fields) = if f.shown then value_in images f ∷ visible_in images fields else visible_in images fields

-- the record at each place is one of the fields of its file
pub record AreRecordsOf (all : List (List Field)) (images : List (List ℕ)) : Type 0 where
  pub lies : (place : ℕ) → lies_from 0 (fields_at all place) ≡ true
  pub each : (place : ℕ) → IsRecord (fields_at all place) (image_in place images)

-- of such records the join shows values
pub record IsShownBy (view : JoinView) (images : List (List ℕ)) : Type 0 where
  pub all : List (List Field)
  pub fields : AllByRecursion (IsShownFrom all) view.fields
  pub format : AreFieldsOf view.format.fields view.fields
  pub records : AreRecordsOf all images
