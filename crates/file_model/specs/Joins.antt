-- Which rows does a join file have, and in which order? (DDS for Physical and Logical Files, join logical files:
-- "JFILE", "JOIN", "JFLD", "JDUPSEQ", "JDFTVAL", "JREF". That secondary records without JDUPSEQ come in arrival order,
-- and where a row with a missing record comes, are this project's own.)
use Rattle.std.specs.Prelude.{ℕ, ◌+◌, Bool, false, List, [], ◌∷◌, ◌++◌, map, filter, flat_map, slice_get, None, unwrap_or, if◌then◌else◌}
use Rattle.std.specs.List.{list_all}
use Rattle.std.specs.declared.cmp.Ordering.{Ordering}
use Rattle.std.specs.declared.cmp.Ordering.TheVariants.{Less, Equal, Greater}
use Rattle.std.specs.Ordering.{nat_cmp, ordering_then, is_eq}
use Rattle.std.specs.Cmp.Lexicographic.{slice_cmp}
use Rattle.record_fmt.specs.FieldTypes.{width}
use Rattle.key_spec.specs.declared.KeyPart.{KeyPart}
use Rattle.key_spec.specs.declared.KeyPart.TheVariants.{Field, Absent}
use Rattle.key_spec.specs.declared.Ties.{Ties}
use Rattle.key_spec.specs.declared.Ties.TheVariants.{Rising}
use Rattle.member_slots.specs.Member.{records}
use Rattle.member_slots.specs.Members.{NumberedMembers, member_of}
use Rattle.file_model.specs.declared.views.ViewField.{ViewField}
use Rattle.file_model.specs.declared.views.FieldSource.TheVariants.{Copied}
use Rattle.file_model.specs.declared.rules.Relation.TheVariants.{Equals}
use Rattle.file_model.specs.declared.paths.PathFormat.{PathFormat}
use Rattle.file_model.specs.declared.paths.PathSpec.{PathSpec}
use Rattle.file_model.specs.declared.joins.JoinPair.{JoinPair}
use Rattle.file_model.specs.declared.joins.Secondary.{Secondary}
use Rattle.file_model.specs.declared.joins.JoinSpec.{JoinSpec}
use Rattle.file_model.specs.KeyOrder.{KeyValue, compare_key_values, key_value}
use Rattle.file_model.specs.Paths.{PathEntry, compare_entries, path}
use Rattle.file_model.specs.Selection.{is_related}
use Rattle.file_model.specs.Sorting.{in_order}
use Rattle.file_model.specs.Views.{field_value, field_image}

-- the record of a secondary file in a row: none, or that of a number, with its value under JDUPSEQ
pub data Match : Type 0 where
  NoRecord : Match
  RecordAt : (sequence : KeyValue) → (rrn : ℕ) → Match

-- what tells one row from the others
pub record RowPlace : Type 0 where
  pub primary : PathEntry
  -- in the order of JFILE
  pub matches : List Match

-- a row with the records that it is made of, the primary's first; defaults stand for a missing one
pub record JoinRow : Type 0 where
  pub place : RowPlace
  pub images : List (List ℕ)

-- ---- the order

-- a missing record comes first
abbrev pub compare_matches : Match → Match → Ordering
compare_matches NoRecord NoRecord = Equal
compare_matches NoRecord (RecordAt sequence rrn) = Less
compare_matches (RecordAt sequence rrn) NoRecord = Greater
compare_matches (RecordAt a i) (RecordAt b j) = ordering_then (compare_key_values a b) (nat_cmp i j)

-- by the primary's place, then by each secondary in turn
abbrev pub compare_places : Ties → RowPlace → RowPlace → Ordering
compare_places ties a b = ordering_then (compare_entries ties a.primary b.primary) (slice_cmp compare_matches a.matches b.matches)

-- ---- the rows

-- the record of a file in a row, by its place in JFILE
abbrev pub image_in : ℕ → List (List ℕ) → List ℕ
image_in file images = unwrap_or (slice_get images file) []

-- the two fields have one value; texts are equal also where one has blanks after it
abbrev pub is_joined : (from to : List ℕ) → JoinPair → Bool
is_joined from to pair = is_related Equals (field_value from pair.from) (field_value to pair.to)

-- a record of a secondary file that is joined, as it stands in a row
pub record Matched : Type 0 where
  pub match : Match
  pub image : List ℕ

abbrev pub matched : Secondary → ℕ × List ℕ → Matched
matched file pair = record { match = RecordAt (key_value file.sequence pair.1) pair.0; image = pair.1 }

abbrev pub compare_matched : Matched → Matched → Ordering
compare_matched a b = compare_matches a.match b.match

-- the records of a secondary file that a row is joined to, in JDUPSEQ order, then in arrival order
abbrev pub matches_of : Secondary → NumberedMembers → JoinRow → List Matched
matches_of file members row =
    in_order compare_matched
    (map (matched file) (filter (λ pair. list_all (is_joined (image_in file.from row.images) pair.1) file.pairs) (records (member_of file.member members))))

-- a row with one file more
abbrev pub row_with : JoinRow → Matched → JoinRow
row_with row m = record { place = record { primary = row.place.primary; matches = row.place.matches ++ m.match ∷ [] }; images = row.images ++ m.image ∷ [] }

-- the defaults where no record is joined
abbrev pub or_missing : (keeps_missing : Bool) → Secondary → List Matched → List Matched
or_missing keeps_missing file (m ∷ found) = m ∷ found
or_missing keeps_missing file [] = if keeps_missing then record { match = NoRecord; image = file.default } ∷ [] else []

-- the rows that a row becomes by the secondary files
abbrev pub joined_rows : (keeps_missing : Bool) → List Secondary → NumberedMembers → JoinRow → List JoinRow
joined_rows keeps_missing [] members row = row ∷ []
joined_rows keeps_missing (file ∷ files) members row =
    flat_map (λ m. joined_rows keeps_missing files members (row_with row m)) (or_missing keeps_missing file (matches_of file members row))

-- the record of an entry of the primary's path
abbrev pub image_of_entry : PathEntry → List (ℕ × List ℕ) → List ℕ
image_of_entry entry [] = []
image_of_entry entry (pair ∷ pairs) = if is_eq (nat_cmp pair.0 entry.rrn) then pair.1 else image_of_entry entry pairs

-- the row of a primary record alone
abbrev pub primary_row : List (ℕ × List ℕ) → PathEntry → JoinRow
primary_row pairs entry = record { place = record { primary = entry; matches = [] }; images = image_of_entry entry pairs ∷ [] }

-- the records of the primary file
abbrev pub primary_records : List PathFormat → NumberedMembers → List (ℕ × List ℕ)
primary_records [] members = []
primary_records (format ∷ formats) members = records (member_of format.member members)

-- the rows of a join file
abbrev pub rows_of : JoinSpec → NumberedMembers → List JoinRow
rows_of spec members =
    flat_map (λ entry. joined_rows spec.keeps_missing spec.secondaries members (primary_row (primary_records spec.primary.formats members) entry)) (path spec.primary members)

-- what the join format shows of a row
abbrev pub row_image : JoinSpec → JoinRow → List ℕ
row_image spec row = flat_map (λ f. field_image (image_in f.file row.images) f.field) spec.fields

-- ---- the paths that a join file keeps

-- the positions of fields that stand one after another from a byte on
abbrev pub parts_from : ℕ → List ViewField → List KeyPart
parts_from offset [] = []
parts_from offset (f ∷ fields) = Field f.ty offset false false ∷ parts_from (offset + width f.ty) fields

-- the bytes of fields that stand one after another
abbrev pub total_width : List ViewField → ℕ
total_width [] = 0
total_width (f ∷ fields) = width f.ty + total_width fields

-- the fields of a secondary file that JFLD names
abbrev pub joined_fields : Secondary → List ViewField
joined_fields file = map (λ pair. pair.to) file.pairs

-- the JDUPSEQ field, and its position at a byte
abbrev pub sequence_field : KeyPart → List ViewField
sequence_field (Field t offset descend absval) = record { ty = t; source = Copied offset } ∷ []
sequence_field Absent = []

abbrev pub sequence_part : ℕ → KeyPart → List KeyPart
sequence_part at (Field t offset descend absval) = Field t at descend absval ∷ []
sequence_part at Absent = []

-- the path of a secondary file: by the fields of JFLD, then by that of JDUPSEQ
abbrev pub secondary_path : Secondary → PathSpec
secondary_path file = record {
  formats = record {
    member = file.member;
    rules = record { statements = []; all = None };
    fields = joined_fields file ++ sequence_field file.sequence;
    key = parts_from 0 (joined_fields file) ++ sequence_part (total_width (joined_fields file)) file.sequence;
  } ∷ [];
  unique = false;
  ties = Rising;
}

-- the paths of a join file: the primary's, then those of the secondaries
abbrev pub paths_of_join : JoinSpec → List PathSpec
paths_of_join spec = spec.primary ∷ map secondary_path spec.secondaries
