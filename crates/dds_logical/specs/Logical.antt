-- What logical file does a source describe, or what is the first thing wrong with it? (DDS for Physical and Logical Files,
-- logical files; Database Programming, "Describing logical files".)
use Rattle.std.specs.Prelude.{ℕ, Bool, false, not, ◌&&◌, ◌==◌, List, [], ◌∷◌, ◌++◌, length, map, flat_map, Option, Some, None, Result, Ok, Err, if◌then◌else◌, codes}
use Rattle.key_spec.specs.declared.KeyPart.{KeyPart}
use Rattle.key_spec.specs.declared.KeySpec.{KeySpec}
use Rattle.key_spec.specs.declared.Ties.{Ties}
use Rattle.key_spec.specs.declared.Ties.TheVariants.{Rising}
use Rattle.record_fmt.specs.declared.formats.Field.{Field}
use Rattle.dds_physical.below.dds_source.specs.declared.faults.DdsFault.{DdsFault}
use Rattle.dds_physical.below.dds_source.specs.declared.keywords.Keyword.{Keyword}
use Rattle.dds_physical.below.dds_source.specs.declared.specifications.Source.{Source}
use Rattle.dds_physical.specs.Faults.{first_after}
use Rattle.dds_physical.specs.declared.physical_files.PhysicalSpec.{PhysicalSpec}
use Rattle.dds_physical.specs.Names.{name_of}
use Rattle.dds_physical.specs.Keywords.{first_named, is_there}
use Rattle.dds_physical.specs.References.{file_of_keyword}
use Rattle.dds_physical.specs.Physical.{ties_of, name_or_none}
use Rattle.dds_physical.specs.WholeFile.{has_key}
use Rattle.file_model.specs.declared.views.ViewField.{ViewField}
use Rattle.dds_logical.specs.declared.views.View.{View}
use Rattle.dds_logical.specs.declared.views.LogicalSpec.{LogicalSpec}
use Rattle.dds_logical.specs.declared.views.LogicalSpec.TheVariants.{Simple, Multi, Join}
use Rattle.dds_logical.specs.declared.keyword_places.KeywordPlace.TheVariants as places
use Rattle.dds_logical.specs.Bases.{fields_of_name}
use Rattle.dds_logical.specs.FormatLines.{FormatLines, formats_in, field_lines, key_lines, selection_lines, is_join_file, is_multi_format}
use Rattle.dds_logical.specs.KeywordRules.{logical_keyword_faults, file_conflicts}
use Rattle.dds_logical.specs.LineOrder.{order_faults, later_of}
use Rattle.dds_logical.specs.declared.named_fields.NamedField.{NamedField}
use Rattle.dds_logical.specs.Fields.{named_fields, laid_out, mapping_of, field_lines_faults, letter_faults}
use Rattle.dds_logical.specs.Keys.{parts_of_lines, padded, key_lines_faults, mismatch_faults}
use Rattle.dds_logical.specs.Selections.{field_to_test, rules_said, selection_lines_faults}
use Rattle.dds_logical.specs.JoinViews.{join_described, join_faults}
use Rattle.dds_logical.specs.WholeFile.{head_faults, formats_faults, format_missing_faults, size_faults}

-- ---- a format over one file

abbrev pub base_name : FormatLines → Option (List ℕ)
base_name f = file_of_keyword (first_named (codes "PFILE") f.head.keywords)

-- the fields of the file that a format is over
abbrev pub base_of : (List ℕ → Option PhysicalSpec) → FormatLines → List Field
base_of bases f = fields_of_name bases (base_name f)

abbrev pub fields_named : (List ℕ → Option PhysicalSpec) → FormatLines → List NamedField
fields_named bases f = named_fields (base_of bases f) (field_lines f)

abbrev pub format_fields : (List ℕ → Option PhysicalSpec) → FormatLines → List Field
format_fields bases f = laid_out 0 (fields_named bases f)

abbrev pub format_parts : (List ℕ → Option PhysicalSpec) → FormatLines → List KeyPart
format_parts bases f = parts_of_lines (format_fields bases f) (key_lines f)

-- how many positions the key of a file with these formats has
abbrev pub most_parts : List FormatLines → ℕ
most_parts [] = 0
most_parts (f ∷ fs) = later_of (length (key_lines f)) (most_parts fs)

-- LIFO changes nothing in a file of one format without a key
abbrev pub ties_with : (is_keyless : Bool) → List Keyword → Ties
ties_with is_keyless ks = if is_keyless then Rising else ties_of ks

abbrev pub is_keyless : (is_multi : Bool) → (positions : ℕ) → Bool
is_keyless is_multi positions = not is_multi && (positions == 0)

abbrev pub key_of : (is_multi : Bool) → (positions : ℕ) → List Keyword → List KeyPart → KeySpec
key_of is_multi positions ks ps =
    record { parts = padded positions ps; unique = is_there (codes "UNIQUE") ks; ties = ties_with (is_keyless is_multi positions) ks }

abbrev pub find_field : (List ℕ → Option PhysicalSpec) → FormatLines → List ℕ → Option ViewField
find_field bases f name = field_to_test (fields_named bases f) (base_of bases f) name

-- what the lines of a format describe, in a file with these keywords and so many positions
abbrev pub view_described : (List ℕ → Option PhysicalSpec) → List Keyword → (is_multi : Bool) → (positions : ℕ) → FormatLines → View
view_described bases ks is_multi positions f = record {
  base = name_or_none (base_name f);
  format = record { name = name_or_none (name_of f.head.name); fields = format_fields bases f };
  mapping = mapping_of (fields_named bases f);
  rules = rules_said (find_field bases f) (selection_lines f);
  keys = key_of is_multi positions ks (format_parts bases f);
}

abbrev pub one_or_several : List View → LogicalSpec
one_or_several [] = Multi []
one_or_several (v ∷ []) = Simple v
one_or_several (v ∷ w ∷ vs) = Multi (v ∷ w ∷ vs)

-- what is wrong with the lines of a format
abbrev pub view_faults : (List ℕ → Option PhysicalSpec) → (last_line : ℕ) → (is_multi : Bool) → FormatLines → List DdsFault
view_faults bases last_line is_multi f =
    head_faults bases false f.head
    ++ field_lines_faults (base_of bases f) (field_lines f)
    ++ key_lines_faults false is_multi (format_fields bases f) (key_lines f)
    ++ selection_lines_faults (find_field bases f) (selection_lines f)
    ++ size_faults last_line (format_fields bases f) (format_parts bases f)

-- ---- a file

-- of a join file the first format, which is the only one
abbrev pub join_described_by : (List ℕ → Option PhysicalSpec) → List Keyword → List FormatLines → LogicalSpec
join_described_by bases ks [] = Multi []
join_described_by bases ks (f ∷ fs) = Join (join_described bases ks f)

-- what the formats describe
abbrev pub described_by : (List ℕ → Option PhysicalSpec) → Source → List FormatLines → LogicalSpec
described_by bases source fs =
    if is_join_file fs then join_described_by bases source.file fs
    else one_or_several (map (view_described bases source.file (is_multi_format fs) (most_parts fs)) fs)

-- the logical file that a source describes
unfoldable pub logical_specification : (List ℕ → Option PhysicalSpec) → Source → LogicalSpec
logical_specification bases source = described_by bases source (formats_in source.specifications)

-- what is wrong with the formats
abbrev pub formats_at_fault : (List ℕ → Option PhysicalSpec) → Source → (is_join : Bool) → List FormatLines → List DdsFault
formats_at_fault bases source is_join fs =
    if is_join then flat_map (join_faults bases source.last_line) fs
    else flat_map (view_faults bases source.last_line (is_multi_format fs)) fs ++ mismatch_faults (format_parts bases) [] fs

-- what is wrong with the file, over its formats
abbrev pub faults_over : (List ℕ → Option PhysicalSpec) → Source → (is_join : Bool) → List FormatLines → List DdsFault
faults_over bases source is_join fs =
    logical_keyword_faults is_join places.File source.file
    ++ file_conflicts (has_key source.specifications) (is_multi_format fs) source.file
    ++ flat_map (letter_faults is_join) source.specifications
    ++ order_faults is_join source.specifications fs
    ++ formats_faults fs
    ++ formats_at_fault bases source is_join fs
    ++ format_missing_faults source.last_line is_join fs

-- all that is wrong with a source
unfoldable pub logical_faults : (List ℕ → Option PhysicalSpec) → Source → List DdsFault
logical_faults bases source = faults_over bases source (is_join_file (formats_in source.specifications)) (formats_in source.specifications)

abbrev pub unless_fault : LogicalSpec → Option DdsFault → Result LogicalSpec DdsFault
unless_fault spec None = Ok spec
unless_fault spec (Some fault) = Err fault

-- the logical file, or the first fault
unfoldable pub logical_of : (List ℕ → Option PhysicalSpec) → Source → Result LogicalSpec DdsFault
logical_of bases source = unless_fault (logical_specification bases source) (first_after None (logical_faults bases source))
