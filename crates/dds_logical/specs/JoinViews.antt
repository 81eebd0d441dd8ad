-- What does the source of a join file describe, and what is wrong with it? (DDS for Physical and Logical Files, join logical
-- files.)
use Rattle.std.specs.Prelude.{ℕ, true, false, List, [], ◌∷◌, ◌++◌, drop, map, flat_map, Option, codes}
use Rattle.key_spec.specs.declared.KeyPart.{KeyPart}
use Rattle.record_fmt.specs.declared.formats.Field.{Field}
use Rattle.dds_physical.below.dds_source.specs.declared.faults.DdsFault.{DdsFault}
use Rattle.dds_physical.below.dds_source.specs.declared.keywords.Keyword.{Keyword}
use Rattle.dds_physical.specs.declared.physical_files.PhysicalSpec.{PhysicalSpec}
use Rattle.dds_physical.specs.Names.{name_of}
use Rattle.dds_physical.specs.Keywords.{first_named, is_there}
use Rattle.dds_physical.specs.Physical.{ties_of, name_or_none}
use Rattle.dds_logical.specs.declared.join_views.JoinView.{JoinView}
use Rattle.dds_logical.specs.declared.join_views.JoinedField.{JoinedField}
use Rattle.dds_logical.specs.Bases.{fields_of_file}
use Rattle.dds_logical.specs.FormatLines.{FormatLines, field_lines, key_lines, join_lines}
use Rattle.dds_logical.specs.Origins.{keyword_names}
use Rattle.dds_logical.specs.Fields.{laid_out}
use Rattle.dds_logical.specs.Keys.{parts_of_lines, key_lines_faults}
use Rattle.dds_logical.specs.JoinLines.{joined_from, link_faults, join_line_faults}
use Rattle.dds_logical.specs.JoinFields.{PlacedField, placed_fields, join_fields_faults, primary_key_faults}
use Rattle.dds_logical.specs.WholeFile.{head_faults, size_faults}

-- the files of JFILE in order, and the fields of each
abbrev pub files_joined : FormatLines → List (List ℕ)
files_joined f = keyword_names (first_named (codes "JFILE") f.head.keywords)

abbrev pub fields_joined : (List ℕ → Option PhysicalSpec) → FormatLines → List (List Field)
fields_joined bases f = map (fields_of_file bases) (files_joined f)

abbrev pub fields_placed : (List ℕ → Option PhysicalSpec) → FormatLines → List PlacedField
fields_placed bases f = placed_fields (files_joined f) (fields_joined bases f) (field_lines f)

abbrev pub join_format_fields : (List ℕ → Option PhysicalSpec) → FormatLines → List Field
join_format_fields bases f = laid_out 0 (map (λ field. field.named) (fields_placed bases f))

abbrev pub join_parts : (List ℕ → Option PhysicalSpec) → FormatLines → List KeyPart
join_parts bases f = parts_of_lines (join_format_fields bases f) (key_lines f)

abbrev pub first_file : List (List ℕ) → List ℕ
first_file [] = []
first_file (file ∷ files) = file

abbrev pub joined_field : PlacedField → JoinedField
joined_field f = record { field = record { file = f.place; field = f.named.shown.field }; shown = f.visible }

-- what the lines of a join format describe, in a file with these keywords
abbrev pub join_described : (List ℕ → Option PhysicalSpec) → List Keyword → FormatLines → JoinView
join_described bases ks f = record {
  primary = first_file (files_joined f);
  secondaries = joined_from (files_joined f) (fields_joined bases f) (join_lines f) 1 (drop 1 (files_joined f));
  format = record { name = name_or_none (name_of f.head.name); fields = join_format_fields bases f };
  fields = map joined_field (fields_placed bases f);
  keys = record { parts = join_parts bases f; unique = is_there (codes "UNIQUE") ks; ties = ties_of ks };
  keeps_missing = is_there (codes "JDFTVAL") ks;
}

-- what is wrong with the lines of a join format
abbrev pub join_faults : (List ℕ → Option PhysicalSpec) → (last_line : ℕ) → FormatLines → List DdsFault
join_faults bases last_line f =
    head_faults bases true f.head
    ++ link_faults (files_joined f) (join_lines f) (first_named (codes "JFILE") f.head.keywords)
    ++ flat_map (join_line_faults (files_joined f) (fields_joined bases f)) (join_lines f)
    ++ join_fields_faults (files_joined f) (fields_joined bases f) (field_lines f)
    ++ key_lines_faults true false (join_format_fields bases f) (key_lines f)
    ++ flat_map (primary_key_faults (fields_placed bases f)) (key_lines f)
    ++ size_faults last_line (join_format_fields bases f) (join_parts bases f)
