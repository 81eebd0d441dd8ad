-- What do the steps say in which the paths of a logical file are built? (Our own.)
use Rattle.std.specs.Prelude.{ℕ, ◌+◌, false, List, [], ◌∷◌, ◌++◌, map, Option, Some, None}
use Rattle.std.specs.List.{AllByRecursion}
use Rattle.field_values.specs.FieldTypes.{IsFieldType}
use Rattle.file_model.below.record_fmt.specs.declared.formats.Field.{Field}
use Rattle.key_spec.specs.declared.KeyPart.{KeyPart}
use Rattle.file_model.specs.declared.joins.JoinField.{JoinField}
use Rattle.file_model.specs.declared.joins.JoinPair.{JoinPair}
use Rattle.file_model.specs.declared.paths.PathSpec.{PathSpec}
use Rattle.file_model.specs.declared.views.LogicalField.{LogicalField}
use Rattle.file_model.specs.declared.views.ViewField.{ViewField}
use Rattle.file_model.specs.FilePaths.{field_from}
use Rattle.file_model.specs.Joins.{parts_from, total_width, sequence_field, sequence_part, secondary_path}
use Rattle.view_rules.specs.Stored.{HasDefault}
use Rattle.dds_logical.specs.declared.join_views.JoinedField.{JoinedField}
use Rattle.dds_logical.specs.declared.join_views.JoinedFile.{JoinedFile}
use Rattle.dds_logical.specs.declared.views.LogicalSpec.{LogicalSpec}
use Rattle.dds_logical.specs.declared.views.LogicalSpec.TheVariants.{Simple, Multi, Join}
use Rattle.logical_laws.specs.Bases.{Bases}
use Rattle.logical_laws.specs.FilePaths.{primary_path, views_path}

-- ---- fields

-- what the fields of a format show
abbrev pub shown_of : List LogicalField → List ViewField
shown_of fields = map (λ f. f.field) fields

-- what those of a join format show
abbrev pub shown_in_join : List JoinedField → List ViewField
shown_in_join fields = map (λ f. f.field.field) fields

-- the field that begins where so many bytes are left; none where that is within a field
abbrev pub field_left : Option ℕ → List ViewField → Option ViewField
field_left None more = None
field_left (Some left) more = field_from left 0 more

-- ---- secondary files

abbrev pub joined_to : List JoinPair → List ViewField
joined_to pairs = map (λ pair. pair.to) pairs

abbrev pub secondary_fields : List JoinPair → KeyPart → List ViewField
secondary_fields pairs sequence = joined_to pairs ++ sequence_field sequence

-- the positions of these fields from a byte on, and that of JDUPSEQ behind them
abbrev pub parts_behind : ℕ → List ViewField → KeyPart → List KeyPart
parts_behind at fields sequence = parts_from at fields ++ sequence_part (at + total_width fields) sequence

-- the path over a member of a secondary file
abbrev pub path_over_secondary : ℕ → JoinedFile → PathSpec
path_over_secondary member joined = secondary_path (record { member = member; from = joined.from; pairs = joined.pairs; sequence = joined.sequence; default = [] })

-- the paths over secondary files
abbrev pub joined_paths : Bases → List JoinedFile → List PathSpec
joined_paths bases secondaries = map (λ joined. path_over_secondary (bases joined.file).member joined) secondaries

-- ---- a file

-- the path by which it is read; of a join the primary's
abbrev pub own_path : Bases → LogicalSpec → PathSpec
own_path bases (Simple view) = views_path bases view.keys.unique (view ∷ [])
own_path bases (Multi views) = views_path bases false views
own_path bases (Join view) = primary_path bases view

-- the others
abbrev pub secondary_paths : Bases → LogicalSpec → List PathSpec
secondary_paths bases (Simple view) = []
secondary_paths bases (Multi views) = []
secondary_paths bases (Join view) = joined_paths bases view.secondaries

-- ---- what a join is read by

abbrev pub fields_of_join : List JoinedField → List JoinField
fields_of_join fields = map (λ f. f.field) fields

-- its type is one that a data description can give
abbrev pub HasType : Field → Type 0
HasType f = IsFieldType f.ty

-- each field of a secondary file takes its default value
abbrev pub HaveDefaults : Bases → List JoinedFile → Type 0
HaveDefaults bases secondaries = AllByRecursion (λ joined. AllByRecursion HasDefault (bases joined.file).fields) secondaries
