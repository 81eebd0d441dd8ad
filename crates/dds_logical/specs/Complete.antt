-- Which formats have all that a logical file is made of, and what is answered of a source? (Our own.)
use Rattle.std.specs.Prelude.{◌≡◌, Bool, ℕ, ◌≤◌, true, false, flat_map, ◌++◌, List, [], ◌∷◌, length, Option, Some, None, is_some, Result, Ok, Err, if◌then◌else◌}
use Rattle.std.specs.List.{AllByRecursion}
use Rattle.dds_physical.below.dds_source.specs.declared.faults.DdsFault.{DdsFault}
use Rattle.dds_physical.below.dds_source.specs.declared.keywords.Keyword.{Keyword}
use Rattle.dds_physical.below.dds_source.specs.declared.specifications.Specification.{Specification}
use Rattle.dds_physical.specs.Reading.{is_record}
use Rattle.dds_physical.specs.declared.physical_files.PhysicalSpec.{PhysicalSpec}
use Rattle.dds_physical.specs.Names.{name_of}
use Rattle.dds_logical.specs.declared.views.View.{View}
use Rattle.dds_logical.specs.declared.views.LogicalSpec.{LogicalSpec}
use Rattle.dds_logical.specs.declared.logical_files.LogicalFault.{LogicalFault}
use Rattle.dds_logical.specs.declared.logical_files.LogicalFault.TheVariants as errors
use Rattle.dds_logical.specs.FormatLines.{FormatLines, formats_in, field_lines, key_lines, selection_lines, is_join_file, is_multi_format}
use Rattle.dds_logical.specs.Logical.{base_name, fields_named, key_of}
use Rattle.dds_logical.specs.Judged.{format_of}
use Rattle.record_fmt.specs.declared.formats.Field.{Field}
use Rattle.record_fmt.specs.declared.formats.TheConstants.{MOST_BYTES, MOST_FIELDS}
use Rattle.dds_physical.specs.Physical.{name_or_none}
use Rattle.dds_logical.specs.declared.named_fields.NamedField.{NamedField}
use Rattle.dds_physical.specs.WholeFile.{has_key}
use Rattle.dds_logical.specs.declared.keyword_places.KeywordPlace.TheVariants as places
use Rattle.dds_logical.specs.KeywordRules.{logical_keyword_faults, file_conflicts}
use Rattle.dds_logical.specs.LineOrder.{order_faults}
use Rattle.dds_logical.specs.Fields.{laid_out, mapping_of, letter_faults}
use Rattle.dds_logical.specs.Keys.{parts_of_lines}
use Rattle.dds_logical.specs.Selections.{field_to_test, rules_said}
use Rattle.dds_logical.specs.JudgedKeys.{bytes_of}
use Rattle.dds_logical.specs.JoinWhole.{IsFirstComplete}

-- it has a name, a file, and fields that fit a record
pub record IsComplete (bases : List ℕ → Option PhysicalSpec) (f : FormatLines) : Type 0 where
  pub named : is_some (name_of f.head.name) ≡ true
  pub based : is_some (base_name f) ≡ true
  pub few : length (field_lines f) ≤ MOST_FIELDS
  pub narrow : bytes_of (fields_named bases f) ≤ MOST_BYTES

abbrev pub AreComplete : (List ℕ → Option PhysicalSpec) → List FormatLines → Type 0
AreComplete bases fs = AllByRecursion (IsComplete bases) fs

-- the format that a line begins is complete, and those behind it
abbrev pub AreCompleteFrom : (List ℕ → Option PhysicalSpec) → Specification → List Specification → Type 0
AreCompleteFrom bases s ss = AreComplete bases (formats_in (s ∷ ss))

-- what the format is that a line begins, if it begins one
abbrev pub views_at : (FormatLines → View) → Specification → List Specification → List View
views_at described s ss = if is_record s.kind then described (format_of s ss) ∷ [] else []

-- of a join the first format is complete, which is the only one, and else all are
abbrev pub IsFileComplete : (List ℕ → Option PhysicalSpec) → (is_join : Bool) → List FormatLines → Type 0
IsFileComplete bases true fs = IsFirstComplete bases fs
IsFileComplete bases false fs = AreComplete bases fs

-- where there is no fault, the formats are complete
abbrev pub CompleteUnless : (List ℕ → Option PhysicalSpec) → List FormatLines → Option DdsFault → Type 0
CompleteUnless bases fs None = IsFileComplete bases (is_join_file fs) fs
CompleteUnless bases fs (Some fault) = Unit {0}

-- what was answered is what it should be, unless memory ran out
abbrev pub Fails : LogicalFault → Result LogicalSpec DdsFault → Type 0
Fails errors.NoMemory wanted = Unit {0}
Fails (errors.Fault fault) wanted = wanted ≡ Err fault

abbrev pub Gives : Result LogicalSpec LogicalFault → Result LogicalSpec DdsFault → Type 0
Gives (Ok spec) wanted = wanted ≡ Ok spec
Gives (Err error) wanted = Fails error wanted

-- what the lines of a format with these fields describe, over these
abbrev pub view_with : List Keyword → (is_multi : Bool) → (positions : ℕ) → FormatLines → (base : List Field) → List NamedField → View
view_with ks is_multi positions f base named = record {
  base = name_or_none (base_name f);
  format = record { name = name_or_none (name_of f.head.name); fields = laid_out 0 named };
  mapping = mapping_of named;
  rules = rules_said (field_to_test named base) (selection_lines f);
  keys = key_of is_multi positions ks (parts_of_lines (laid_out 0 named) (key_lines f));
}

-- what is wrong with the keywords of a file, with letters in 35 and 38, and lines out of order
abbrev pub outline_faults : (is_join : Bool) → List Keyword → List Specification → List DdsFault
outline_faults is_join ks ss =
    logical_keyword_faults is_join places.File ks
    ++ file_conflicts (has_key ss) (is_multi_format (formats_in ss)) ks
    ++ flat_map (letter_faults is_join) ss
    ++ order_faults is_join ss (formats_in ss)
