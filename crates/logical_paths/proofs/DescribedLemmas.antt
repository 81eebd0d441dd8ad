-- A logical file that a data description describes can have its paths.
use Rattle.std.proofs.Common.{◌≡◌, ℕ, ◌≤◌, ◌<◌, Bool, true, false, Option, Some, None, is_some, IsSome, Ok, List, [], ◌∷◌, ◌++◌, length, map, refl, sym, ◌∙◌, ap, subst, arith}
use Rattle.std.specs.Prelude.{AllPairs}
use Rattle.std.specs.List.{AllByRecursion, flat_map}
use Rattle.std.proofs.lemmas.Bool.{cond_both}
use Rattle.std.proofs.lemmas.List.{length-map}
use Rattle.file_model.below.record_fmt.specs.declared.formats.Field.{Field}
use Rattle.file_model.specs.Layout.{IsLaidOut}
use Rattle.key_spec.specs.declared.KeyPart.{KeyPart}
use Rattle.access_path.specs.KeyFields.{Matches}
use Rattle.dds_source.specs.declared.faults.DdsFault.{DdsFault}
use Rattle.dds_source.specs.declared.keywords.Keyword.{Keyword}
use Rattle.dds_source.specs.declared.specifications.Source.{Source}
use Rattle.dds_source.specs.declared.specifications.Specification.{Specification}
use Rattle.dds_source.specs.Faults.{first_after}
use Rattle.dds_physical.specs.declared.physical_files.PhysicalSpec.{PhysicalSpec}
use Rattle.dds_physical.specs.Physical.{name_or_none}
use Rattle.dds_physical.proofs.FaultLemmas.{nothing_noted}
use Rattle.path_entrants.specs.declared.entrant.TheConstants.{MOST_FORMATS}
use Rattle.dds_logical.specs.declared.limits.TheConstants.{MOST_KEY_FIELDS}
use Rattle.dds_logical.specs.declared.views.LogicalSpec.{LogicalSpec}
use Rattle.dds_logical.specs.declared.views.View.{View}
use Rattle.dds_logical.specs.Bases.{fields_of_base, fields_of_name}
use Rattle.dds_logical.specs.Complete.{IsComplete, AreComplete, IsFileComplete}
use Rattle.dds_logical.specs.JoinViews.{join_faults}
use Rattle.dds_logical.specs.JoinWhole.{IsFirstComplete}
use Rattle.dds_logical.specs.Fields.{mapping_of, field_entry_faults, made_faults, file_number_faults, field_lines_faults, too_many_faults}
use Rattle.dds_logical.specs.FormatLines.{FormatLines, formats_in, field_lines, key_lines, selection_lines, is_join_file, is_multi_format}
use Rattle.dds_logical.specs.Keys.{key_lines_faults, mismatch_faults, padded}
use Rattle.dds_logical.specs.LineOrder.{later_of}
use Rattle.dds_logical.specs.Logical.{base_name, base_of, fields_named, format_fields, format_parts, most_parts, find_field, view_described}
use Rattle.dds_logical.specs.Logical.{one_or_several, view_faults, join_described_by, described_by}
use Rattle.dds_logical.specs.Logical.{formats_at_fault, faults_over, unless_fault, logical_specification, logical_faults, logical_of}
use Rattle.dds_logical.specs.WholeFile.{formats_faults}
use Rattle.dds_logical.proofs.CompleteLemmas.{complete_file, few_left, nothing_in}
use Rattle.dds_logical.proofs.JoinCompleteLemmas.{complete_unless}
use Rattle.logical_laws.specs.Bases.{Bases, base_names}
use Rattle.logical_laws.specs.Mapped.{AreBasesOf}
use Rattle.logical_laws.proofs.MappedLemmas.{described-there}
use Rattle.logical_paths.specs.Steps.{shown_of}
use Rattle.logical_paths.specs.KeyedViews.{IsShownOf, IsKeyedView, IsViewOver, IsKeyedLogical, AreLaidOut, HaveFewPairs}
use Rattle.logical_paths.proofs.JoinLemmas.{join-keyed}
use Rattle.logical_paths.proofs.OriginLemmas.{flat-nothing, lines-shown}
use Rattle.logical_paths.proofs.PartLemmas.{lines-parts, padded-parts, lines-long, keys-few, few-positions, padded-few, formats-match}
use Rattle.logical_paths.proofs.RuleLemmas.{find-shown, rules-over}

-- ---- one format

-- what no fault of its lines says
record IsSound (described : List ℕ → Option PhysicalSpec) (f : FormatLines) : Type 0 where
  fields : AllByRecursion (λ s. made_faults (base_of described f) s ≡ []) (field_lines f)
  few : length (key_lines f) ≤ MOST_KEY_FIELDS

made-right : (base : List Field) (ss : List Specification) → AllByRecursion (λ s. field_entry_faults false s ++ made_faults base s ++ file_number_faults s ≡ []) ss
    → AllByRecursion (λ s. made_faults base s ≡ []) ss
made-right base [] none = tt
made-right base (s ∷ ss) none =
    ((nothing_in (field_entry_faults false s) (made_faults base s) (nothing_in _ (file_number_faults s) none.0).0).1, made-right base ss none.1)

fields-right : (base : List Field) (ss : List Specification) → field_lines_faults base ss ≡ [] → AllByRecursion (λ s. made_faults base s ≡ []) ss
fields-right base ss none =
    made-right base ss (flat-nothing (λ s. field_entry_faults false s ++ made_faults base s ++ file_number_faults s) ss
    (nothing_in _ (flat_map (λ s. field_entry_faults false s ++ made_faults base s ++ file_number_faults s) ss) none).1)

view-sound : (described : List ℕ → Option PhysicalSpec) (last_line : ℕ) (is_multi : Bool) (f : FormatLines) → view_faults described last_line is_multi f ≡ [] → IsSound described f
view-sound described last_line is_multi f none =
    let keys = nothing_in _ (key_lines_faults false is_multi (format_fields described f) (key_lines f)) (nothing_in _ _ (nothing_in _ _ none).0).0 in
    let fields = nothing_in _ (field_lines_faults (base_of described f) (field_lines f)) keys.0 in
    record { fields = fields-right (base_of described f) (field_lines f) fields.1; few = keys-few false is_multi (format_fields described f) (key_lines f) keys.1 }

view-keyed : (described : List ℕ → Option PhysicalSpec) (ks : List Keyword) (is_multi : Bool) (positions : ℕ) (f : FormatLines) → IsLaidOut (base_of described f) → IsSound described f
    → positions ≤ MOST_KEY_FIELDS → IsKeyedView (base_of described f) (view_described described ks is_multi positions f)
view-keyed described ks is_multi positions f laid sound low =
    let base : List Field = base_of described f in
    let all : AllByRecursion (IsShownOf base) (shown_of (mapping_of (fields_named described f))) = lines-shown base laid.lies (field_lines f) sound.fields in
    let long : length (format_parts described f) ≤ MOST_KEY_FIELDS =
    subst (λ (n : ℕ). n ≤ MOST_KEY_FIELDS) (sym (lines-long (format_fields described f) (key_lines f))) sound.few in
    record {
      laid = laid;
      fields = all;
      rules = rules-over base (find_field described f) (find-shown base laid.lies (fields_named described f) all) (selection_lines f);
      parts = padded-parts base (shown_of (mapping_of (fields_named described f))) positions (format_parts described f) (lines-parts base (fields_named described f) (key_lines f) all);
      few = few-positions (length (padded positions (format_parts described f))) (padded-few positions MOST_KEY_FIELDS (format_parts described f) low long);
    }

-- ---- the base file of a format

what-is : {A : Type 0} (o : Option A) → is_some o ≡ true → (x : A) × (o ≡ Some x)
what-is None h = absurd cc
what-is (Some x) h = (x, refl)

pub name-fields : (described : List ℕ → Option PhysicalSpec) (bases : Bases) (name : List ℕ) → AreBasesOf described bases → IsSome (described name)
    → fields_of_base (described name) ≡ (bases name).fields
name-fields described bases name are there = (let spec = what-is (described name) there in ap fields_of_base spec.1 ∙ sym (are name spec.0 spec.1))

base-fields : (described : List ℕ → Option PhysicalSpec) (bases : Bases) (o : Option (List ℕ)) → AreBasesOf described bases → is_some o ≡ true → IsSome (described (name_or_none o))
    → fields_of_name described o ≡ (bases (name_or_none o)).fields
base-fields described bases None are based there = absurd cc
base-fields described bases (Some name) are based there = name-fields described bases name are there

view-over : (described : List ℕ → Option PhysicalSpec) (bases : Bases) (ks : List Keyword) (is_multi : Bool) (positions : ℕ) (f : FormatLines) → AreBasesOf described bases
    → IsSome (described (name_or_none (base_name f))) → IsLaidOut (bases (name_or_none (base_name f))).fields → IsComplete described f → IsSound described f → positions ≤ MOST_KEY_FIELDS
    → IsViewOver bases (view_described described ks is_multi positions f)
view-over described bases ks is_multi positions f are there laid complete sound low =
    let same : base_of described f ≡ (bases (name_or_none (base_name f))).fields = base-fields described bases (base_name f) are complete.based there in
    subst (λ (base : List Field). IsKeyedView base (view_described described ks is_multi positions f)) same
    (view-keyed described ks is_multi positions f (subst IsLaidOut (sym same) laid) sound low)

-- ---- all formats

views-sound : (described : List ℕ → Option PhysicalSpec) (last_line : ℕ) (is_multi : Bool) (fs : List FormatLines) → AllByRecursion (λ f. view_faults described last_line is_multi f ≡ []) fs
    → AllByRecursion (IsSound described) fs
views-sound described last_line is_multi [] none = tt
views-sound described last_line is_multi (f ∷ fs) none = (view-sound described last_line is_multi f none.0, views-sound described last_line is_multi fs none.1)

later-low : (a b most : ℕ) → a ≤ most → b ≤ most → later_of a b ≤ most
later-low a b most first second = cond_both _ _ _ (λ (n : ℕ). n ≤ most) (λ _. second) (λ _. first)

positions-low : (described : List ℕ → Option PhysicalSpec) (fs : List FormatLines) → AllByRecursion (IsSound described) fs → most_parts fs ≤ MOST_KEY_FIELDS
positions-low described [] sound = (let none : 0 ≤ 32 = omega arith in none)
positions-low described (f ∷ fs) sound = later-low (length (key_lines f)) (most_parts fs) MOST_KEY_FIELDS sound.0.few (positions-low described fs sound.1)

module _ (described : List ℕ → Option PhysicalSpec) (bases : Bases) (are : AreBasesOf described bases) (ks : List Keyword) (is_multi : Bool) (positions : ℕ) (low : positions ≤ MOST_KEY_FIELDS) where
  each-over : (fs : List FormatLines) → AllByRecursion (λ (view : View). IsSome (described view.base)) (map (view_described described ks is_multi positions) fs)
      → AllByRecursion (λ (view : View). IsLaidOut (bases view.base).fields) (map (view_described described ks is_multi positions) fs)
      → AreComplete described fs → AllByRecursion (IsSound described) fs → AllByRecursion (IsViewOver bases) (map (view_described described ks is_multi positions) fs)
  each-over [] there laid complete sound = tt
  each-over (f ∷ fs) there laid complete sound =
      (view-over described bases ks is_multi positions f are there.0 laid.0 complete.0 sound.0 low, each-over fs there.1 laid.1 complete.1 sound.1)

parts-same : (described : List ℕ → Option PhysicalSpec) (ks : List Keyword) (is_multi : Bool) (positions : ℕ) (fs : List FormatLines)
    → map (λ (view : View). view.keys.parts) (map (view_described described ks is_multi positions) fs) ≡ map (λ f. padded positions (format_parts described f)) fs
parts-same described ks is_multi positions [] = refl
parts-same described ks is_multi positions (f ∷ fs) =
    ap (λ (keys : List (List KeyPart)). padded positions (format_parts described f) ∷ keys) (parts-same described ks is_multi positions fs)

several-keyed : (bases : Bases) (views : List View) → AllByRecursion (IsViewOver bases) views → length views ≤ MOST_FORMATS → AllPairs Matches (map (λ view. view.keys.parts) views)
    → IsKeyedLogical bases (one_or_several views)
several-keyed bases [] each few match = record { each = tt; few = few; match = match }
several-keyed bases (v ∷ []) each few match = each.0
several-keyed bases (v ∷ w ∷ views) each few match = record { each = each; few = few; match = match }

-- what holds of the names of base files holds of each format's
names-back : (P : List ℕ → Type 0) (views : List View) → AllByRecursion P (map (λ view. view.base) views) → AllByRecursion (λ (view : View). P view.base) views
names-back P [] all = tt
names-back P (v ∷ views) all = (all.0, names-back P views all.1)

several-names : (P : List ℕ → Type 0) (views : List View) → AllByRecursion P (base_names (one_or_several views)) → AllByRecursion (λ (view : View). P view.base) views
several-names P [] all = tt
several-names P (v ∷ []) all = (all.0, tt)
several-names P (v ∷ w ∷ views) all = names-back P (v ∷ w ∷ views) all

few-formats : (fs : List FormatLines) → formats_faults fs ≡ [] → length fs ≤ 16
few-formats fs none =
    let few : length (map (λ f. f.head) fs) ≤ 16 = few_left 16 (map (λ f. f.head) fs) (nothing_in _ (too_many_faults 16 (map (λ f. f.head) fs)) none).1 in
    let same : length (map (λ (f : FormatLines). f.head) fs) ≡ length fs = length-map fs (λ (f : FormatLines). f.head) in
    omega (arith, few, same)

views-keyed : (described : List ℕ → Option PhysicalSpec) (bases : Bases) (source : Source) (fs : List FormatLines) → AreBasesOf described bases → faults_over described source false fs ≡ []
    → AllByRecursion (λ name. IsSome (described name)) (base_names (one_or_several (map (view_described described source.file (is_multi_format fs) (most_parts fs)) fs)))
    → AreLaidOut bases (one_or_several (map (view_described described source.file (is_multi_format fs) (most_parts fs)) fs))
    → IsKeyedLogical bases (one_or_several (map (view_described described source.file (is_multi_format fs) (most_parts fs)) fs))
views-keyed described bases source fs are none there laid =
    let is_multi : Bool = is_multi_format fs in
    let positions : ℕ = most_parts fs in
    let views : List View = map (view_described described source.file is_multi positions) fs in
    let before = nothing_in _ (formats_at_fault described source false fs) (nothing_in _ _ none).0 in
    let few : length fs ≤ 16 = few-formats fs (nothing_in _ (formats_faults fs) before.0).1 in
    let faults = nothing_in (flat_map (view_faults described source.last_line is_multi) fs) (mismatch_faults (format_parts described) [] fs) before.1 in
    let sound : AllByRecursion (IsSound described) fs = views-sound described source.last_line is_multi fs (flat-nothing (view_faults described source.last_line is_multi) fs faults.0) in
    let low : positions ≤ MOST_KEY_FIELDS = positions-low described fs sound in
    let many : length views ≡ length fs = length-map fs (view_described described source.file is_multi positions) in
    let match : AllPairs Matches (map (λ (view : View). view.keys.parts) views) =
    subst (AllPairs Matches) (sym (parts-same described source.file is_multi positions fs))
    (formats-match (format_parts described) (λ f. lines-long (format_fields described f) (key_lines f)) positions [] fs faults.1) in
    several-keyed bases views
    (each-over described bases are source.file is_multi positions low fs (several-names (λ name. IsSome (described name)) views there)
    (several-names (λ name. IsLaidOut (bases name).fields) views laid) (complete_file described source fs none) sound)
    (let all : length views ≤ 65535 = omega (arith, few, many) in all) match

-- ---- a file

join-file : (described : List ℕ → Option PhysicalSpec) (bases : Bases) (source : Source) (fs : List FormatLines) → AreBasesOf described bases → faults_over described source true fs ≡ []
    → IsFirstComplete described fs → AllByRecursion (λ name. IsSome (described name)) (base_names (join_described_by described source.file fs))
    → AreLaidOut bases (join_described_by described source.file fs) → HaveFewPairs (join_described_by described source.file fs) → IsKeyedLogical bases (join_described_by described source.file fs)
join-file described bases source [] are none complete there laid few =
    several-keyed bases [] tt (let low : 0 ≤ 65535 = omega arith in low) (λ i j d before within. absurd (let less : j < 0 = within in omega (arith, less)))
join-file described bases source (f ∷ fs) are none complete there laid few =
    let formats : formats_at_fault described source true (f ∷ fs) ≡ [] = (nothing_in _ (formats_at_fault described source true (f ∷ fs)) (nothing_in _ _ none).0).1 in
    let own : join_faults described source.last_line f ≡ [] = (nothing_in (join_faults described source.last_line f) (flat_map (join_faults described source.last_line) fs) formats).0 in
    join-keyed described bases (λ name is. name-fields described bases name are is) source.last_line source.file f own complete there.0 there.1 laid.0 laid.1 few

-- what no fault of a source leaves of a file
IsFileKeyed : (List ℕ → Option PhysicalSpec) → Bases → LogicalSpec → Type 0
IsFileKeyed described bases spec = AllByRecursion (λ name. IsSome (described name)) (base_names spec) → AreLaidOut bases spec → HaveFewPairs spec → IsKeyedLogical bases spec

join-complete : (described : List ℕ → Option PhysicalSpec) (source : Source) (fs : List FormatLines) → faults_over described source (is_join_file fs) fs ≡ [] → is_join_file fs ≡ true
    → IsFirstComplete described fs
join-complete described source fs none join =
    let found : None ≡ first_after None (faults_over described source (is_join_file fs) fs) = sym (ap (first_after None) none) in
    let whole : IsFileComplete described (is_join_file fs) fs = complete_unless described source fs None found in
    subst (λ (b : Bool). IsFileComplete described b fs) join whole

file-keyed : (described : List ℕ → Option PhysicalSpec) (bases : Bases) (source : Source) (fs : List FormatLines) → AreBasesOf described bases → faults_over described source (is_join_file fs) fs ≡ []
    → IsFileKeyed described bases (described_by described source fs)
unfolding IsFileKeyed
file-keyed described bases source fs are none =
    let P : LogicalSpec → Type 0 = λ spec. AllByRecursion (λ name. IsSome (described name)) (base_names spec) → AreLaidOut bases spec → HaveFewPairs spec → IsKeyedLogical bases spec in
    cond_both (is_join_file fs) (join_described_by described source.file fs) (one_or_several (map (view_described described source.file (is_multi_format fs) (most_parts fs)) fs)) P
    (λ join there laid few. join-file described bases source fs are (subst (λ (b : Bool). faults_over described source b fs ≡ []) join none)
    (join-complete described source fs none join) there laid few)
    (λ other there laid few. views-keyed described bases source fs are (subst (λ (b : Bool). faults_over described source b fs ≡ []) other none) there laid)

pub found-right : (spec made : LogicalSpec) (o : Option DdsFault) → unless_fault made o ≡ Ok spec → (o ≡ None) × (made ≡ spec)
found-right spec made None h = (refl, (let same : made ≡ spec = cc in same))
found-right spec made (Some fault) h = absurd cc

source-keyed : (described : List ℕ → Option PhysicalSpec) (bases : Bases) (source : Source) (spec : LogicalSpec) → AreBasesOf described bases → logical_of described source ≡ Ok spec
    → IsFileKeyed described bases spec
unfolding logical_of logical_specification logical_faults
source-keyed described bases source spec are h =
    let fs : List FormatLines = formats_in source.specifications in
    let faults : List DdsFault = faults_over described source (is_join_file fs) fs in
    let right = found-right spec (described_by described source fs) (first_after None faults) h in
    subst (IsFileKeyed described bases) right.1 (file-keyed described bases source fs are (nothing_noted None faults right.0))

pub described-keyed : (described : List ℕ → Option PhysicalSpec) (bases : Bases) (source : Source) (spec : LogicalSpec) → AreBasesOf described bases → logical_of described source ≡ Ok spec
    → AreLaidOut bases spec → HaveFewPairs spec → IsKeyedLogical bases spec
unfolding IsFileKeyed
described-keyed described bases source spec are h laid few = source-keyed described bases source spec are h (described-there described source spec h) laid few
