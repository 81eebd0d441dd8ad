-- What do a file's formats show of records, and which records do values make that are given through them?
-- (DDS for Physical and Logical Files; Database Programming, "Using a logical file".)
use Rattle.std.specs.Prelude.{ℕ, nat_lt, Bool, Option, Some, None, Result, Err, List, [], ◌∷◌, map, slice_get, length, unwrap_or, if◌then◌else◌}
use Rattle.dds_logical.specs.KeyOrder.{merged_parts}
use Rattle.std.specs.List.{position}
use Rattle.std.specs.Str.{bytes_eq}
use Rattle.std.specs.Ordering.{is_eq}
use Rattle.field_types.specs.declared.values.Value.{Value}
use Rattle.field_types.specs.declared.faults.RecordFault.{RecordFault}
use Rattle.field_types.specs.declared.faults.RecordFault.TheVariants.{Count}
use Rattle.dds_logical.below.record_fmt.specs.declared.formats.Field.{Field}
use Rattle.dds_logical.specs.Records.{record_held, record_given}
use Rattle.key_spec.specs.declared.KeyPart.{KeyPart}
use Rattle.key_spec.specs.declared.Ties.{Ties}
use Rattle.member_slots.specs.Members.{NumberedMembers}
use Rattle.dds_logical.specs.declared.views.View.{View}
use Rattle.dds_logical.specs.declared.views.LogicalSpec.TheVariants.{Simple, Multi, Join}
use Rattle.dds_logical.specs.declared.join_views.JoinView.{JoinView}
use Rattle.dds_logical.specs.declared.join_views.JoinedField.{JoinedField}
use Rattle.dds_logical.below.file_model.specs.declared.joins.JoinSpec.{JoinSpec}
use Rattle.dds_logical.specs.Joins.{RowPlace, JoinRow, compare_places, row_image, rows_of}
use Rattle.dds_logical.specs.Views.{base_image, logical_image}
use Rattle.logical_model.specs.Bases.{Bases, FileSpec, PhysicalFile, LogicalFile}
use Rattle.logical_model.specs.FilePaths.{join_of}

-- ---- the formats of a file

-- their names, in their order
abbrev pub format_names : FileSpec → List (List ℕ)
format_names (PhysicalFile spec) = spec.format.name ∷ []
format_names (LogicalFile (Simple view)) = view.format.name ∷ []
format_names (LogicalFile (Multi views)) = map (λ view. view.format.name) views
format_names (LogicalFile (Join view)) = view.format.name ∷ []

-- the number of the format of this name, counted from 0
abbrev pub format_number : List ℕ → FileSpec → Option ℕ
format_number name spec = position (bytes_eq name) (format_names spec)

-- the positions of the key, at each that of the first format which has it
abbrev pub parts_in : FileSpec → List KeyPart
parts_in (PhysicalFile spec) = spec.keys.parts
parts_in (LogicalFile (Simple view)) = view.keys.parts
parts_in (LogicalFile (Multi views)) = merged_parts (map (λ view. view.keys.parts) views)
parts_in (LogicalFile (Join view)) = view.keys.parts

abbrev pub has_key : FileSpec → Bool
has_key spec = nat_lt 0 (length (parts_in spec))

-- ---- what is shown

-- the name of a format, and the values that it shows
pub record Shown : Type 0 where
  pub format : List ℕ
  pub values : List Value

-- the values that an image shows; each record of a library has one in each field
abbrev pub values_shown : List Field → List ℕ → List Value
values_shown fields image = unwrap_or (record_held fields image) []

abbrev pub shown_through : View → List ℕ → Shown
shown_through view image = record { format = view.format.name; values = values_shown view.format.fields (logical_image view.mapping image) }

-- a format that isn't there shows nothing
abbrev pub shown_by : Option View → List ℕ → Shown
shown_by None image = record { format = []; values = [] }
shown_by (Some view) image = shown_through view image

-- the values of those fields that aren't of usage N
abbrev pub visible : List JoinedField → List Value → List Value
visible [] values = []
visible (f ∷ fields) [] = []
visible (f ∷ fields) (value ∷ values) = if f.shown then value ∷ visible fields values else visible fields values

-- the records of the row at a place, among the rows of the join
abbrev pub images_at : Ties → RowPlace → List JoinRow → List (List ℕ)
images_at ties place [] = []
images_at ties place (row ∷ rows) = if is_eq (compare_places ties row.place place) then row.images else images_at ties place rows

abbrev pub row_at : JoinSpec → NumberedMembers → RowPlace → JoinRow
row_at spec members place = record { place = place; images = images_at spec.primary.ties place (rows_of spec members) }

abbrev pub row_shown : Bases → NumberedMembers → JoinView → RowPlace → Shown
row_shown bases members view place = record {
  format = view.format.name;
  values = visible view.fields (values_shown view.format.fields (row_image (join_of bases view) (row_at (join_of bases view) members place)));
}

abbrev pub row_or_none : Bases → NumberedMembers → JoinView → Option RowPlace → Shown
row_or_none bases members view None = record { format = view.format.name; values = [] }
row_or_none bases members view (Some place) = row_shown bases members view place

-- what the format of this number shows of a record of its member, or a join's of a row
abbrev pub shown_in : Bases → NumberedMembers → FileSpec → (number : ℕ) → (image : List ℕ) → Option RowPlace → Shown
shown_in bases members (PhysicalFile spec) number image row = record { format = spec.format.name; values = values_shown spec.format.fields image }
shown_in bases members (LogicalFile (Simple view)) number image row = shown_through view image
shown_in bases members (LogicalFile (Multi views)) number image row = shown_by (slice_get views number) image
shown_in bases members (LogicalFile (Join view)) number image row = row_or_none bases members view row

-- ---- what is written

-- the record that values make which are given through a format, over the old record where one is changed; or the first fault
abbrev pub given_through : Bases → View → List (Option Value) → Option (List ℕ) → Result (List ℕ) RecordFault
given_through bases view values old = base_image (bases view.base).fields view.mapping values old

abbrev pub given_by : Bases → Option View → List (Option Value) → Option (List ℕ) → Result (List ℕ) RecordFault
given_by bases None values old = Err Count
given_by bases (Some view) values old = given_through bases view values old

-- the same by the format of this number; through a join nothing is written
abbrev pub given_in : Bases → FileSpec → (number : ℕ) → List (Option Value) → Option (List ℕ) → Result (List ℕ) RecordFault
given_in bases (PhysicalFile spec) number values old = record_given spec.format.fields values old
given_in bases (LogicalFile (Simple view)) number values old = given_through bases view values old
given_in bases (LogicalFile (Multi views)) number values old = given_by bases (slice_get views number) values old
given_in bases (LogicalFile (Join view)) number values old = Err Count
