-- What is wrong with one format more.
use Rattle.std.proofs.Common.{◌≡◌, ◌∙◌, ap, sym, ℕ, Bool, List, ◌∷◌, Option}
use Rattle.std.specs.List.{filter_map}
use Rattle.key_spec.specs.declared.KeyPart.{KeyPart}
use Rattle.record_fmt.specs.declared.formats.Field.{Field}
use Rattle.dds_physical.below.dds_source.specs.declared.faults.DdsFault.{DdsFault}
use Rattle.dds_physical.specs.Faults.{first_after}
use Rattle.dds_physical.specs.declared.physical_files.PhysicalSpec.{PhysicalSpec}
use Rattle.dds_physical.proofs.FaultLemmas.{first_after_append}
use Rattle.dds_logical.specs.declared.named_fields.NamedField.{NamedField}
use Rattle.dds_logical.specs.FormatLines.{FormatLines, key_lines}
use Rattle.dds_logical.specs.Logical.{base_of, fields_named, view_faults}
use Rattle.dds_logical.specs.JudgedKeys.{judged_if, positions_from, positions_of}
use Rattle.dds_logical.specs.Mismatches.{judged_of, mismatches_of, faults_with}

pub mismatch-step : (bases : List ℕ → Option PhysicalSpec) (f : FormatLines) (earlier new : List (List KeyPart)) (best noted : Option DdsFault) (named : List NamedField) (parts : List KeyPart) (later : List FormatLines)
    → named ≡ fields_named bases f → noted ≡ first_after best (positions_of 0 earlier named f.body) → parts ≡ filter_map (judged_if named) f.body → new ≡ parts ∷ earlier
    → first_after noted (mismatches_of bases new later) ≡ first_after best (mismatches_of bases earlier (f ∷ later))
mismatch-step bases f earlier new best noted named parts later is found made pushed =
    let same : parts ≡ judged_of bases f = made ∙ ap (λ (fs : List NamedField). filter_map (judged_if fs) f.body) is in
    ap (λ (e : List (List KeyPart)). first_after noted (mismatches_of bases e later)) (pushed ∙ ap (λ (ps : List KeyPart). ps ∷ earlier) same)
    ∙ ap (λ (b : Option DdsFault). first_after b (mismatches_of bases (judged_of bases f ∷ earlier) later)) (found ∙ ap (λ (fs : List NamedField). first_after best (positions_of 0 earlier fs f.body)) is)
    ∙ sym (first_after_append best (positions_from 0 earlier (judged_of bases f) (key_lines f)) (mismatches_of bases (judged_of bases f ∷ earlier) later))

-- what is wrong with a format was noted by the fields under it and its own
pub view-noted : (bases : List ℕ → Option PhysicalSpec) (last_line : ℕ) (is_multi : Bool) (f : FormatLines) (base : List Field) (named : List NamedField) (old new : Option DdsFault)
    → new ≡ first_after old (faults_with bases last_line is_multi f base named) → base ≡ base_of bases f → named ≡ fields_named bases f → new ≡ first_after old (view_faults bases last_line is_multi f)
view-noted bases last_line is_multi f base named old new noted under is =
    noted ∙ ap (λ (b : List Field). first_after old (faults_with bases last_line is_multi f b named)) under
    ∙ ap (λ (ns : List NamedField). first_after old (faults_with bases last_line is_multi f (base_of bases f) ns)) is
