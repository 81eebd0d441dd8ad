-- What is wrong with a format by the fields under it and its own, and which positions of keys differ between formats? (Our own.)
use Rattle.std.specs.Prelude.{ℕ, Bool, false, List, [], ◌∷◌, ◌++◌, Option}
use Rattle.std.specs.List.{filter_map}
use Rattle.key_spec.specs.declared.KeyPart.{KeyPart}
use Rattle.dds_physical.below.dds_source.specs.declared.faults.DdsFault.{DdsFault}
use Rattle.dds_physical.below.dds_source.specs.declared.specifications.Specification.{Specification}
use Rattle.dds_physical.specs.declared.physical_files.PhysicalSpec.{PhysicalSpec}
use Rattle.dds_logical.specs.FormatLines.{FormatLines, formats_in, field_lines, key_lines, selection_lines}
use Rattle.record_fmt.specs.declared.formats.Field.{Field}
use Rattle.dds_logical.specs.declared.named_fields.NamedField.{NamedField}
use Rattle.dds_logical.specs.Fields.{laid_out, field_lines_faults}
use Rattle.dds_logical.specs.Keys.{parts_of_lines, key_lines_faults}
use Rattle.dds_logical.specs.Selections.{field_to_test, selection_lines_faults}
use Rattle.dds_logical.specs.WholeFile.{head_faults, size_faults}
use Rattle.dds_logical.specs.Logical.{fields_named}
use Rattle.dds_logical.specs.JudgedKeys.{judged_if, positions_from}

-- the positions of a format
abbrev pub judged_of : (List ℕ → Option PhysicalSpec) → FormatLines → List KeyPart
judged_of bases f = filter_map (judged_if (fields_named bases f)) f.body

-- KeyMismatch: positions that differ from those of earlier formats
abbrev pub mismatches_of : (List ℕ → Option PhysicalSpec) → (earlier : List (List KeyPart)) → List FormatLines → List DdsFault
mismatches_of bases earlier [] = []
mismatches_of bases earlier (f ∷ fs) = positions_from 0 earlier (judged_of bases f) (key_lines f) ++ mismatches_of bases (judged_of bases f ∷ earlier) fs

-- among lines
abbrev pub mismatches : (List ℕ → Option PhysicalSpec) → (earlier : List (List KeyPart)) → List Specification → List DdsFault
mismatches bases earlier ss = mismatches_of bases earlier (formats_in ss)

-- from a line on
abbrev pub mismatches_from : (List ℕ → Option PhysicalSpec) → (earlier : List (List KeyPart)) → Specification → List Specification → List DdsFault
mismatches_from bases earlier s ss = mismatches bases earlier (s ∷ ss)

-- what is wrong with a format with these fields, over these
abbrev pub faults_with : (List ℕ → Option PhysicalSpec) → (last_line : ℕ) → (is_multi : Bool) → FormatLines → (base : List Field) → List NamedField → List DdsFault
faults_with bases last_line is_multi f base named =
    head_faults bases false f.head
    ++ field_lines_faults base (field_lines f)
    ++ key_lines_faults false is_multi (laid_out 0 named) (key_lines f)
    ++ selection_lines_faults (field_to_test named base) (selection_lines f)
    ++ size_faults last_line (laid_out 0 named) (parts_of_lines (laid_out 0 named) (key_lines f))
