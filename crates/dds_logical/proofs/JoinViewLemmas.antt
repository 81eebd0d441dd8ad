-- A join format by its files, its fields and the places of these.
use Rattle.std.proofs.Common.{◌≡◌, ◌∙◌, ◌≤◌, ap, sym, refl, subst, ℕ, List, ◌++◌, drop, map, flat_map, length, Option, true, false, arith}
use Rattle.std.specs.List.{filter_map}
use Rattle.record_fmt.specs.declared.formats.TheConstants.{MOST_FIELDS}
use Rattle.dds_physical.below.dds_source.specs.declared.faults.DdsFault.{DdsFault}
use Rattle.dds_physical.below.dds_source.specs.declared.keywords.Keyword.{Keyword}
use Rattle.dds_physical.specs.Faults.{first_after}
use Rattle.dds_physical.specs.declared.physical_files.PhysicalSpec.{PhysicalSpec}
use Rattle.dds_physical.proofs.FaultLemmas.{first_after_append}
use Rattle.std.proofs.lemmas.List.{append_assoc}
use Rattle.dds_logical.specs.declared.join_fields.FieldPlace.{FieldPlace}
use Rattle.dds_logical.specs.declared.join_views.JoinView.{JoinView}
use Rattle.dds_logical.specs.declared.join_views.JoinedField.{JoinedField}
use Rattle.dds_logical.specs.declared.join_views.JoinedFile.{JoinedFile}
use Rattle.dds_logical.specs.declared.limits.TheConstants.{MOST_JOINED}
use Rattle.dds_logical.specs.declared.named_fields.NamedField.{NamedField}
use Rattle.dds_logical.specs.Bases.{fields_of_file}
use Rattle.dds_logical.specs.FormatLines.{FormatLines, field_lines, join_lines, key_lines}
use Rattle.dds_logical.specs.Keys.{key_lines_faults}
use Rattle.dds_logical.specs.WholeFile.{size_faults}
use Rattle.dds_logical.specs.JoinLines.{joined_from}
use Rattle.dds_logical.specs.JoinFields.{PlacedField, join_fields_faults, placed_fields, placed_at, place_of_line}
use Rattle.dds_logical.specs.JoinViews.{fields_joined, fields_placed, files_joined, join_described, join_faults, join_format_fields, join_parts}
use Rattle.dds_logical.specs.JoinSteps.{AreLow, key_place_faults, named_of_placed, placed_if, places_of_placed}
use Rattle.dds_logical.specs.JoinWhole.{file_faults_with, field_faults_with, join_with}
use Rattle.dds_logical.proofs.CompleteLemmas.{length_same, length_some}
use Rattle.dds_logical.proofs.JoinFieldLemmas.{joined_are, keys_are, placed_are, places_low}

-- ---- what was found

placed-found : (bases : List ℕ → Option PhysicalSpec) (f : FormatLines) (files : List (List ℕ)) → files ≡ files_joined f
    → filter_map (placed_if files (map (fields_of_file bases) files)) f.body ≡ fields_placed bases f
placed-found bases f files is =
    placed_are files (map (fields_of_file bases) files) f.body ∙ ap (λ (fs : List (List ℕ)). placed_fields fs (map (fields_of_file bases) fs) (field_lines f)) is

pub named-found : (bases : List ℕ → Option PhysicalSpec) (f : FormatLines) (files : List (List ℕ)) (named : List NamedField)
    → named ≡ named_of_placed (filter_map (placed_if files (map (fields_of_file bases) files)) f.body) → files ≡ files_joined f → named ≡ named_of_placed (fields_placed bases f)
named-found bases f files named found is = found ∙ ap named_of_placed (placed-found bases f files is)

pub places-found : (bases : List ℕ → Option PhysicalSpec) (f : FormatLines) (files : List (List ℕ)) (places : List FieldPlace)
    → places ≡ places_of_placed (filter_map (placed_if files (map (fields_of_file bases) files)) f.body) → files ≡ files_joined f → places ≡ places_of_placed (fields_placed bases f)
places-found bases f files places found is = found ∙ ap places_of_placed (placed-found bases f files is)

-- ---- what is wrong

pub join-noted : (bases : List ℕ → Option PhysicalSpec) (last_line : ℕ) (f : FormatLines) (files : List (List ℕ)) (named : List NamedField) (places : List FieldPlace) (old noted new : Option DdsFault)
    → noted ≡ first_after old (file_faults_with bases files f) → new ≡ first_after noted (field_faults_with bases last_line files named places f.body) → files ≡ files_joined f
    → named ≡ named_of_placed (filter_map (placed_if files (map (fields_of_file bases) files)) f.body)
    → places ≡ places_of_placed (filter_map (placed_if files (map (fields_of_file bases) files)) f.body)
    → new ≡ first_after old (join_faults bases last_line f)
join-noted bases last_line f files named places old noted new head fields is found placed =
    let all = fields_placed bases f in
    fields
    ∙ ap (λ (b : Option DdsFault). first_after b (field_faults_with bases last_line files named places f.body)) head
    ∙ ap (λ (ns : List NamedField). first_after (first_after old (file_faults_with bases files f)) (field_faults_with bases last_line files ns places f.body))
    (named-found bases f files named found is)
    ∙ ap (λ (ps : List FieldPlace). first_after (first_after old (file_faults_with bases files f)) (field_faults_with bases last_line files (named_of_placed all) ps f.body))
    (places-found bases f files places placed is)
    ∙ ap (λ (fs : List (List ℕ)). first_after (first_after old (file_faults_with bases fs f)) (field_faults_with bases last_line fs (named_of_placed all) (places_of_placed all) f.body)) is
    ∙ one_after old (file_faults_with bases (files_joined f) f) (join_fields_faults (files_joined f) (fields_joined bases f) (field_lines f))
    (key_lines_faults true false (join_format_fields bases f) (key_lines f))
    (flat_map (key_place_faults (named_of_placed all) (places_of_placed all)) (key_lines f)) (size_faults last_line (join_format_fields bases f) (join_parts bases f))
    ∙ ap (λ (gs : List DdsFault). first_after old
    (file_faults_with bases (files_joined f) f ++ join_fields_faults (files_joined f) (fields_joined bases f) (field_lines f)
    ++ key_lines_faults true false (join_format_fields bases f) (key_lines f)
    ++ gs ++ size_faults last_line (join_format_fields bases f) (join_parts bases f))) (keys_are all (key_lines f))
  where
    one_after : (best : Option DdsFault) (xs a b k s : List DdsFault) → first_after (first_after best xs) (a ++ b ++ k ++ s) ≡ first_after best (xs ++ a ++ b ++ k ++ s)
    one_after best xs a b k s =
        sym (first_after_append best xs (a ++ b ++ k ++ s))
        ∙ ap (first_after best) (sym (append_assoc xs (a ++ b ++ k) s)
        ∙ ap (λ (ys : List DdsFault). ys ++ s) (sym (append_assoc xs (a ++ b) k) ∙ ap (λ (ys : List DdsFault). ys ++ k) (sym (append_assoc xs a b))))

-- ---- what is described

pub few-named : (bases : List ℕ → Option PhysicalSpec) (f : FormatLines) → length (field_lines f) ≤ MOST_FIELDS → length (named_of_placed (fields_placed bases f)) ≤ MOST_FIELDS
few-named bases f few =
    let same = length_same (λ (p : PlacedField). p.named) (fields_placed bases f) in
    let less = length_some (λ s. placed_at (fields_joined bases f) s (place_of_line (files_joined f) (fields_joined bases f) s)) (field_lines f) in
    omega (arith, same, less, few)

pub low-places : (bases : List ℕ → Option PhysicalSpec) (f : FormatLines) → length (files_joined f) ≤ MOST_JOINED → AreLow (places_of_placed (fields_placed bases f))
low-places bases f few =
    subst (λ (ps : List PlacedField). AreLow (places_of_placed ps)) (placed-found bases f (files_joined f) refl)
    (places_low (files_joined f) (fields_joined bases f) f.body (length_same (fields_of_file bases) (files_joined f)) few)

pub join-described : (bases : List ℕ → Option PhysicalSpec) (ks : List Keyword) (f : FormatLines) (files : List (List ℕ)) (secondaries : List JoinedFile) (named : List NamedField)
    (places : List FieldPlace) (view : JoinView)
    → view ≡ join_with ks files secondaries named places f → files ≡ files_joined f
    → secondaries ≡ joined_from files (map (fields_of_file bases) files) (join_lines f) 1 (drop 1 files)
    → named ≡ named_of_placed (filter_map (placed_if files (map (fields_of_file bases) files)) f.body)
    → places ≡ places_of_placed (filter_map (placed_if files (map (fields_of_file bases) files)) f.body)
    → view ≡ join_described bases ks f
join-described bases ks f files secondaries named places view is same reached found placed =
    let all = fields_placed bases f in
    is
    ∙ ap (λ (ns : List NamedField). join_with ks files secondaries ns places f) (named-found bases f files named found same)
    ∙ ap (λ (ps : List FieldPlace). join_with ks files secondaries (named_of_placed all) ps f) (places-found bases f files places placed same)
    ∙ ap (λ (js : List JoinedFile). join_with ks files js (named_of_placed all) (places_of_placed all) f) reached
    ∙ ap (λ (fs : List (List ℕ)). join_with ks fs (joined_from fs (map (fields_of_file bases) fs) (join_lines f) 1 (drop 1 fs)) (named_of_placed all) (places_of_placed all) f) same
    ∙ ap (λ (js : List JoinedField). record (join_with ks (files_joined f) (joined_from (files_joined f) (fields_joined bases f) (join_lines f) 1 (drop 1 (files_joined f)))
    (named_of_placed all) (places_of_placed all) f) { fields = js }) (joined_are all)
