-- Of which fields of its files is a join made? (DDS for Physical and Logical Files, "JOIN", "JFLD", "JREF". That it is said of the
-- fields of base files is our own.)
use Rattle.std.specs.Prelude.{◌≡◌, ℕ, ◌+◌, ◌<◌, List, [], ◌∷◌, map}
use Rattle.std.specs.List.{AllByRecursion}
use Rattle.record_fmt.specs.declared.formats.Field.{Field}
use Rattle.dds_logical.specs.declared.join_views.JoinedField.{JoinedField}
use Rattle.dds_logical.specs.declared.join_views.JoinedFile.{JoinedFile}
use Rattle.dds_logical.specs.declared.join_views.JoinView.{JoinView}
use Rattle.dds_logical.specs.declared.views.LogicalSpec.{LogicalSpec}
use Rattle.dds_logical.specs.declared.views.LogicalSpec.TheVariants.{Simple, Multi, Join}
use Rattle.dds_logical.specs.JoinLines.{fields_at}
use Rattle.logical_model.specs.Bases.{Bases, base_names}
use Rattle.logical_paths.specs.KeyedViews.{IsShownOf}

-- the fields of its files, in the order of JFILE
abbrev pub fields_under : Bases → JoinView → List (List Field)
fields_under bases view = map (λ name. (bases name).fields) (base_names (Join view))

-- the file at this place in JFILE is joined from an earlier one, by fields that show a value of each record of that
pub record IsLinked (all : List (List Field)) (place : ℕ) (joined : JoinedFile) : Type 0 where
  pub from : joined.from < place
  pub pairs : AllByRecursion (λ pair. IsShownOf (fields_at all joined.from) pair.from) joined.pairs

-- so is each from this place on
abbrev pub AreLinked : List (List Field) → (place : ℕ) → List JoinedFile → Type 0
AreLinked all place [] = Unit {0}
AreLinked all place (joined ∷ more) = IsLinked all place joined × AreLinked all (place + 1) more

-- a field of the join format shows a value of each record of its file
abbrev pub IsShownFrom : List (List Field) → JoinedField → Type 0
IsShownFrom all f = IsShownOf (fields_at all f.field.file) f.field.field

-- the fields of the format have the types of what they show, in order
abbrev pub AreFieldsOf : List Field → List JoinedField → Type 0
AreFieldsOf [] [] = Unit {0}
AreFieldsOf [] (shown ∷ more) = ⊥
AreFieldsOf (f ∷ fields) [] = ⊥
AreFieldsOf (f ∷ fields) (shown ∷ more) = (f.ty ≡ shown.field.field.ty) × AreFieldsOf fields more

pub record IsLinkedJoin (bases : Bases) (view : JoinView) : Type 0 where
  pub linked : AreLinked (fields_under bases view) 1 view.secondaries
  pub shown : AllByRecursion (IsShownFrom (fields_under bases view)) view.fields
  pub format : AreFieldsOf view.format.fields view.fields

-- no other logical file is a join
abbrev pub IsLinkedLogical : Bases → LogicalSpec → Type 0
IsLinkedLogical bases (Simple view) = Unit {0}
IsLinkedLogical bases (Multi views) = Unit {0}
IsLinkedLogical bases (Join view) = IsLinkedJoin bases view
