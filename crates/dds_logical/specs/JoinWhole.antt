-- What has a join format that has all that a join is made of, and what is wrong with it by its fields? (Our own.)
use Rattle.std.specs.Prelude.{◌≡◌, ℕ, ◌≤◌, ◌<◌, true, false, List, [], ◌∷◌, ◌++◌, flat_map, map, length, Option, is_some, codes}
use Rattle.key_spec.specs.declared.KeyPart.{KeyPart}
use Rattle.key_spec.specs.declared.KeySpec.{KeySpec}
use Rattle.record_fmt.specs.declared.formats.TheConstants.{MOST_BYTES, MOST_FIELDS}
use Rattle.dds_physical.below.dds_source.specs.declared.faults.DdsFault.{DdsFault}
use Rattle.dds_physical.below.dds_source.specs.declared.keywords.Keyword.{Keyword}
use Rattle.dds_physical.below.dds_source.specs.declared.specifications.Specification.{Specification}
use Rattle.dds_physical.specs.declared.physical_files.PhysicalSpec.{PhysicalSpec}
use Rattle.dds_physical.specs.Names.{name_of}
use Rattle.dds_physical.specs.Keywords.{first_named, is_there}
use Rattle.dds_physical.specs.Physical.{ties_of, name_or_none}
use Rattle.dds_logical.specs.declared.format_lines.LineKind.TheVariants as line_kinds
use Rattle.dds_logical.specs.declared.join_fields.FieldPlace.{FieldPlace}
use Rattle.dds_logical.specs.declared.join_views.JoinView.{JoinView}
use Rattle.dds_logical.specs.declared.join_views.JoinedFile.{JoinedFile}
use Rattle.dds_logical.specs.declared.limits.TheConstants.{MOST_JOINED}
use Rattle.dds_logical.specs.declared.named_fields.NamedField.{NamedField}
use Rattle.dds_logical.specs.Bases.{fields_of_file}
use Rattle.dds_logical.specs.FormatLines.{FormatLines, field_lines, key_lines, join_lines}
use Rattle.dds_logical.specs.Fields.{laid_out}
use Rattle.dds_logical.specs.Keys.{parts_of_lines, key_lines_faults}
use Rattle.dds_logical.specs.WholeFile.{head_faults, size_faults}
use Rattle.dds_logical.specs.Judged.{lines_of}
use Rattle.dds_logical.specs.JudgedKeys.{bytes_of}
use Rattle.dds_logical.specs.JoinLines.{link_faults, join_line_faults}
use Rattle.dds_logical.specs.JoinFields.{join_fields_faults}
use Rattle.dds_logical.specs.JoinViews.{fields_placed, files_joined, first_file}
use Rattle.dds_logical.specs.JoinSteps.{joined_of, key_place_faults, named_of_placed}

-- it has a name, two files at least and not too many, and fields that fit a record
pub record IsJoinComplete (bases : List ℕ → Option PhysicalSpec) (f : FormatLines) : Type 0 where
  pub named : is_some (name_of f.head.name) ≡ true
  pub some : 0 < length (files_joined f)
  pub joined : length (files_joined f) ≤ MOST_JOINED
  pub few : length (field_lines f) ≤ MOST_FIELDS
  pub narrow : bytes_of (named_of_placed (fields_placed bases f)) ≤ MOST_BYTES

-- the first of the formats is complete, which is the only one
abbrev pub IsFirstComplete : (List ℕ → Option PhysicalSpec) → List FormatLines → Type 0
IsFirstComplete bases [] = Unit {0}
IsFirstComplete bases (f ∷ fs) = IsJoinComplete bases f

abbrev pub join_keys : List Keyword → List KeyPart → KeySpec
join_keys ks ps = record { parts = ps; unique = is_there (codes "UNIQUE") ks; ties = ties_of ks }

-- what the lines of a join format with these files and fields describe
abbrev pub join_with : List Keyword → (files : List (List ℕ)) → List JoinedFile → List NamedField → List FieldPlace → FormatLines → JoinView
join_with ks files secondaries named places f = record {
  primary = first_file files;
  secondaries = secondaries;
  format = record { name = name_or_none (name_of f.head.name); fields = laid_out 0 named };
  fields = joined_of named places;
  keys = join_keys ks (parts_of_lines (laid_out 0 named) (key_lines f));
  keeps_missing = is_there (codes "JDFTVAL") ks;
}

-- what is wrong with the J lines of a join of these files, and with the files
abbrev pub file_faults_with : (List ℕ → Option PhysicalSpec) → (files : List (List ℕ)) → FormatLines → List DdsFault
file_faults_with bases files f =
    head_faults bases true f.head
    ++ link_faults files (join_lines f) (first_named (codes "JFILE") f.head.keywords)
    ++ flat_map (join_line_faults files (map (fields_of_file bases) files)) (join_lines f)

-- what is wrong with the fields and the key, among these lines
abbrev pub field_faults_with : (List ℕ → Option PhysicalSpec) → (last_line : ℕ) → (files : List (List ℕ)) → List NamedField → List FieldPlace → List Specification → List DdsFault
field_faults_with bases last_line files named places ss =
    join_fields_faults files (map (fields_of_file bases) files) (lines_of line_kinds.Field ss)
    ++ key_lines_faults true false (laid_out 0 named) (lines_of line_kinds.Key ss)
    ++ flat_map (key_place_faults named places) (lines_of line_kinds.Key ss)
    ++ size_faults last_line (laid_out 0 named) (parts_of_lines (laid_out 0 named) (lines_of line_kinds.Key ss))
