-- What a logical file's source describes depends on the files alone that PFILE or JFILE of its formats name.
use Rattle.std.proofs.Common.{◌≡◌, ℕ, ◌||◌, map, if◌then◌else◌, Bool, true, false, Option, Some, None, is_none, Ok, List, [], ◌∷◌, ◌++◌, drop, refl, sym, ◌∙◌, ap, codes}
use Rattle.std.proofs.lemmas.Bool.{or_parts}
use Rattle.std.specs.List.{AllByRecursion, cons_option, flat_map, list_any}
use Rattle.record_fmt.specs.declared.formats.Field.{Field}
use Rattle.dds_source.specs.declared.arguments.Argument.{Argument}
use Rattle.dds_source.specs.declared.faults.DdsFault.{DdsFault}
use Rattle.dds_source.specs.declared.faults.DdsCause.TheVariants.{NoBase}
use Rattle.dds_source.specs.declared.keywords.Keyword.{Keyword}
use Rattle.dds_source.specs.declared.specifications.Source.{Source}
use Rattle.dds_source.specs.Entries.{when}
use Rattle.dds_source.specs.Faults.{first_after}
use Rattle.dds_physical.specs.declared.physical_files.PhysicalSpec.{PhysicalSpec}
use Rattle.dds_physical.specs.KeywordRules.{argument_name}
use Rattle.dds_physical.specs.Keywords.{arguments_of, first_named, is_there}
use Rattle.dds_physical.specs.Names.{name_of}
use Rattle.dds_physical.specs.Physical.{name_or_none, ties_of}
use Rattle.dds_physical.specs.Places.{fault_of_keyword}
use Rattle.dds_physical.specs.References.{file_of, file_of_keyword}
use Rattle.dds_logical.specs.declared.join_views.JoinView.{JoinView}
use Rattle.dds_logical.specs.declared.views.LogicalSpec.{LogicalSpec}
use Rattle.dds_logical.specs.declared.views.LogicalSpec.TheVariants.{Join}
use Rattle.dds_logical.specs.declared.views.View.{View}
use Rattle.dds_logical.specs.Bases.{fields_of_base, fields_of_file, fields_of_name}
use Rattle.dds_logical.specs.Fields.{field_lines_faults, laid_out, mapping_of, named_fields}
use Rattle.dds_logical.specs.FormatLines.{FormatLines, field_lines, formats_in, is_join_file, is_multi_format, join_lines, key_lines, selection_lines}
use Rattle.dds_logical.specs.JoinFields.{join_fields_faults, placed_fields, primary_key_faults}
use Rattle.dds_logical.specs.JoinLines.{join_line_faults, joined_from, link_faults}
use Rattle.dds_logical.specs.JoinViews.{fields_joined, files_joined, first_file, join_faults, joined_field}
use Rattle.dds_logical.specs.KeywordArguments.{names_among}
use Rattle.dds_logical.specs.Keys.{key_lines_faults, mismatch_faults, parts_of_lines, position_faults}
use Rattle.dds_logical.specs.Logical.{base_name, base_of, described_by, faults_over, format_parts, formats_at_fault, join_described_by, key_of, logical_faults, logical_of, logical_specification, most_parts, one_or_several, unless_fault, view_described, view_faults}
use Rattle.dds_logical.specs.Origins.{keyword_names}
use Rattle.dds_logical.specs.Selections.{field_to_test, rules_said, selection_lines_faults}
use Rattle.dds_logical.specs.WholeFile.{base_faults, head_faults, is_no_base, size_faults}
use Rattle.dds_physical.proofs.FaultLemmas.{nothing_noted}
use Rattle.library_kept.proofs.DefaultLemmas.{none-left, none-right, not-said}
use Rattle.restart_laws.specs.Given.{IsSameOver}

-- ---- by the fields of its base files

abbrev view_from : List Keyword → (is_multi : Bool) → (positions : ℕ) → FormatLines → (base : List Field) → View
view_from ks is_multi positions f base = record {
  base = name_or_none (base_name f);
  format = record { name = name_or_none (name_of f.head.name); fields = laid_out 0 (named_fields base (field_lines f)) };
  mapping = mapping_of (named_fields base (field_lines f));
  rules = rules_said (λ name. field_to_test (named_fields base (field_lines f)) base name) (selection_lines f);
  keys = key_of is_multi positions ks (parts_of_lines (laid_out 0 (named_fields base (field_lines f))) (key_lines f));
}

abbrev join_from : List Keyword → FormatLines → (joined : List (List Field)) → JoinView
join_from ks f joined = record {
  primary = first_file (files_joined f);
  secondaries = joined_from (files_joined f) joined (join_lines f) 1 (drop 1 (files_joined f));
  format = record { name = name_or_none (name_of f.head.name); fields = laid_out 0 (map (λ field. field.named) (placed_fields (files_joined f) joined (field_lines f))) };
  fields = map joined_field (placed_fields (files_joined f) joined (field_lines f));
  keys = record {
    parts = parts_of_lines (laid_out 0 (map (λ field. field.named) (placed_fields (files_joined f) joined (field_lines f)))) (key_lines f);
    unique = is_there (codes "UNIQUE") ks;
    ties = ties_of ks;
  };
  keeps_missing = is_there (codes "JDFTVAL") ks;
}

-- two lists with the same front
same-end : (xs ys zs : List DdsFault) → zs ≡ ys → xs ++ zs ≡ xs ++ ys
same-end xs ys zs same = ap (λ (more : List DdsFault). xs ++ more) same

same-middle : (xs ys zs ws : List DdsFault) → zs ≡ ys → xs ++ zs ++ ws ≡ xs ++ ys ++ ws
same-middle xs ys zs ws same = ap (λ (more : List DdsFault). xs ++ more ++ ws) same

module _ (bases others : List ℕ → Option PhysicalSpec) where
  abbrev Same : List ℕ → Type 0
  Same name = others name ≡ bases name

  abbrev SameIn : (is_join : Bool) → FormatLines → Type 0
  SameIn is_join f = IsSameOver bases others is_join f

  missing-same : (names : List (List ℕ)) → AllByRecursion Same names → list_any (is_no_base others) names ≡ list_any (is_no_base bases) names
  missing-same [] all = refl
  missing-same (name ∷ names) all = λ i. is_none (all.0 i) || missing-same names all.1 i

  faults-named : (o : Option Keyword) → AllByRecursion Same (keyword_names o) → base_faults others o ≡ base_faults bases o
  faults-named None all = refl
  faults-named (Some k) all = ap (λ (b : Bool). when b (fault_of_keyword NoBase k)) (missing-same (names_among (arguments_of k)) all)

  head-same : (is_join : Bool) (f : FormatLines) → SameIn is_join f → head_faults others is_join f.head ≡ head_faults bases is_join f.head
  head-same is_join f same =
      same-end _ (base_faults bases (first_named (if is_join then codes "JFILE" else codes "PFILE") f.head.keywords))
      (base_faults others (first_named (if is_join then codes "JFILE" else codes "PFILE") f.head.keywords))
      (faults-named (first_named (if is_join then codes "JFILE" else codes "PFILE") f.head.keywords) same)

  -- ---- a format over one file

  first-same : (o : Option (List ℕ)) (names : List (List ℕ)) → AllByRecursion Same (cons_option o names) → fields_of_name others o ≡ fields_of_name bases o
  first-same None names all = refl
  first-same (Some name) names all = ap fields_of_base all.0

  argument-same : (args : List Argument) → AllByRecursion Same (names_among args) → fields_of_name others (file_of args) ≡ fields_of_name bases (file_of args)
  argument-same [] all = refl
  argument-same (a ∷ more) all = first-same (argument_name a) (names_among more) all

  keyword-same : (o : Option Keyword) → AllByRecursion Same (keyword_names o) → fields_of_name others (file_of_keyword o) ≡ fields_of_name bases (file_of_keyword o)
  keyword-same None all = refl
  keyword-same (Some k) all = argument-same (arguments_of k) all

  base-same : (f : FormatLines) → SameIn false f → base_of others f ≡ base_of bases f
  base-same f same = keyword-same (first_named (codes "PFILE") f.head.keywords) same

  view-same : (ks : List Keyword) (is_multi : Bool) (positions : ℕ) (f : FormatLines) → SameIn false f → view_described others ks is_multi positions f ≡ view_described bases ks is_multi positions f
  view-same ks is_multi positions f same = ap (view_from ks is_multi positions f) (base-same f same)

  views-same : (ks : List Keyword) (is_multi : Bool) (positions : ℕ) (fs : List FormatLines) → AllByRecursion (SameIn false) fs
      → map (view_described others ks is_multi positions) fs ≡ map (view_described bases ks is_multi positions) fs
  views-same ks is_multi positions [] same = refl
  views-same ks is_multi positions (f ∷ fs) same = λ i. view-same ks is_multi positions f same.0 i ∷ views-same ks is_multi positions fs same.1 i

  view-faults-same : (last_line : ℕ) (is_multi : Bool) (f : FormatLines) → SameIn false f → view_faults others last_line is_multi f ≡ view_faults bases last_line is_multi f
  view-faults-same last_line is_multi f same =
      let head = head-same false f same in
      let base = base-same f same in
      λ i. head i
      ++ field_lines_faults (base i) (field_lines f)
      ++ key_lines_faults false is_multi (laid_out 0 (named_fields (base i) (field_lines f))) (key_lines f)
      ++ selection_lines_faults (field_to_test (named_fields (base i) (field_lines f)) (base i)) (selection_lines f)
      ++ size_faults last_line (laid_out 0 (named_fields (base i) (field_lines f))) (parts_of_lines (laid_out 0 (named_fields (base i) (field_lines f))) (key_lines f))

  all-faults-same : (last_line : ℕ) (is_multi : Bool) (fs : List FormatLines) → AllByRecursion (SameIn false) fs
      → flat_map (view_faults others last_line is_multi) fs ≡ flat_map (view_faults bases last_line is_multi) fs
  all-faults-same last_line is_multi [] same = refl
  all-faults-same last_line is_multi (f ∷ fs) same = λ i. view-faults-same last_line is_multi f same.0 i ++ all-faults-same last_line is_multi fs same.1 i

  mismatches-same : (fs : List FormatLines) (earlier : List _) → AllByRecursion (SameIn false) fs → mismatch_faults (format_parts others) earlier fs ≡ mismatch_faults (format_parts bases) earlier fs
  mismatches-same [] earlier same = refl
  mismatches-same (f ∷ fs) earlier same =
      let base = base-same f same.0 in
      (λ i. position_faults earlier (parts_of_lines (laid_out 0 (named_fields (base i) (field_lines f))) (key_lines f)) (key_lines f)
      ++ mismatch_faults (format_parts others) (parts_of_lines (laid_out 0 (named_fields (base i) (field_lines f))) (key_lines f) ∷ earlier) fs)
      ∙ ap (λ (more : List DdsFault). position_faults earlier (format_parts bases f) (key_lines f) ++ more) (mismatches-same fs (format_parts bases f ∷ earlier) same.1)

  -- ---- a join

  fields-same : (names : List (List ℕ)) → AllByRecursion Same names → map (fields_of_file others) names ≡ map (fields_of_file bases) names
  fields-same [] all = refl
  fields-same (name ∷ names) all = λ i. fields_of_base (all.0 i) ∷ fields-same names all.1 i

  joined-same : (f : FormatLines) → SameIn true f → fields_joined others f ≡ fields_joined bases f
  joined-same f same = fields-same (files_joined f) same

  join-same : (ks : List Keyword) (fs : List FormatLines) → AllByRecursion (SameIn true) fs → join_described_by others ks fs ≡ join_described_by bases ks fs
  join-same ks [] same = refl
  join-same ks (f ∷ fs) same = ap (λ (joined : List (List Field)). Join (join_from ks f joined)) (joined-same f same.0)

  join-faults-same : (last_line : ℕ) (f : FormatLines) → SameIn true f → join_faults others last_line f ≡ join_faults bases last_line f
  join-faults-same last_line f same =
      let head = head-same true f same in
      let joined = joined-same f same in
      λ i. head i
      ++ link_faults (files_joined f) (join_lines f) (first_named (codes "JFILE") f.head.keywords)
      ++ flat_map (join_line_faults (files_joined f) (joined i)) (join_lines f)
      ++ join_fields_faults (files_joined f) (joined i) (field_lines f)
      ++ key_lines_faults true false (laid_out 0 (map (λ field. field.named) (placed_fields (files_joined f) (joined i) (field_lines f)))) (key_lines f)
      ++ flat_map (primary_key_faults (placed_fields (files_joined f) (joined i) (field_lines f))) (key_lines f)
      ++ size_faults last_line (laid_out 0 (map (λ field. field.named) (placed_fields (files_joined f) (joined i) (field_lines f))))
      (parts_of_lines (laid_out 0 (map (λ field. field.named) (placed_fields (files_joined f) (joined i) (field_lines f)))) (key_lines f))

  joins-faults-same : (last_line : ℕ) (fs : List FormatLines) → AllByRecursion (SameIn true) fs → flat_map (join_faults others last_line) fs ≡ flat_map (join_faults bases last_line) fs
  joins-faults-same last_line [] same = refl
  joins-faults-same last_line (f ∷ fs) same = λ i. join-faults-same last_line f same.0 i ++ joins-faults-same last_line fs same.1 i

  -- ---- the whole

  described-same : (source : Source) (fs : List FormatLines) → AllByRecursion (SameIn (is_join_file fs)) fs → described_by others source fs ≡ described_by bases source fs
  described-same source fs same = by (is_join_file fs) same
    where
      by : (b : Bool) → AllByRecursion (SameIn b) fs
          → (if b then join_described_by others source.file fs else one_or_several (map (view_described others source.file (is_multi_format fs) (most_parts fs)) fs))
          ≡ (if b then join_described_by bases source.file fs else one_or_several (map (view_described bases source.file (is_multi_format fs) (most_parts fs)) fs))
      by true same = join-same source.file fs same
      by false same = ap one_or_several (views-same source.file (is_multi_format fs) (most_parts fs) fs same)

  formats-same : (source : Source) (b : Bool) (fs : List FormatLines) → AllByRecursion (SameIn b) fs → formats_at_fault others source b fs ≡ formats_at_fault bases source b fs
  formats-same source true fs same = joins-faults-same source.last_line fs same
  formats-same source false fs same = λ i. all-faults-same source.last_line (is_multi_format fs) fs same i ++ mismatches-same fs [] same i

  faults-over-same : (source : Source) (b : Bool) (fs : List FormatLines) → AllByRecursion (SameIn b) fs → faults_over others source b fs ≡ faults_over bases source b fs
  faults-over-same source b fs same = same-middle _ (formats_at_fault bases source b fs) (formats_at_fault others source b fs) _ (formats-same source b fs same)

  pub logical-same : (source : Source) → AllByRecursion (SameIn (is_join_file (formats_in source.specifications))) (formats_in source.specifications)
      → logical_of others source ≡ logical_of bases source
  unfolding logical_of logical_specification logical_faults
  logical-same source same =
      let spec = described-same source (formats_in source.specifications) same in
      let faults = faults-over-same source (is_join_file (formats_in source.specifications)) (formats_in source.specifications) same in
      λ i. unless_fault (spec i) (first_after None (faults i))

-- ---- where there are more files

module _ (bases others : List ℕ → Option PhysicalSpec) (wider : (name : List ℕ) (spec : PhysicalSpec) → bases name ≡ Some spec → others name ≡ Some spec) where
  there-same : (name : List ℕ) → is_no_base bases name ≡ false → others name ≡ bases name
  there-same name there = by (bases name) refl there
    where
      by : (o : Option PhysicalSpec) → bases name ≡ o → is_none o ≡ false → others name ≡ bases name
      by None is h = absurd cc
      by (Some spec) is h = wider name spec is ∙ sym is

  names-same : (names : List (List ℕ)) → list_any (is_no_base bases) names ≡ false → AllByRecursion (λ name. others name ≡ bases name) names
  names-same [] e = tt
  names-same (name ∷ names) e = let parts = or_parts (is_no_base bases name) (list_any (is_no_base bases) names) e in (there-same name parts.0, names-same names parts.1)

  named-same : (o : Option Keyword) → base_faults bases o ≡ [] → AllByRecursion (λ name. others name ≡ bases name) (keyword_names o)
  named-same None e = tt
  named-same (Some k) e = names-same (names_among (arguments_of k)) (not-said (list_any (is_no_base bases) (names_among (arguments_of k))) _ e)

  over-same : (is_join : Bool) (f : FormatLines) → head_faults bases is_join f.head ≡ [] → IsSameOver bases others is_join f
  over-same is_join f none =
      named-same (first_named (if is_join then codes "JFILE" else codes "PFILE") f.head.keywords)
      (none-right _ (base_faults bases (first_named (if is_join then codes "JFILE" else codes "PFILE") f.head.keywords)) none)

  view-over : (last_line : ℕ) (is_multi : Bool) (f : FormatLines) → view_faults bases last_line is_multi f ≡ [] → IsSameOver bases others false f
  view-over last_line is_multi f none =
      let head : head_faults bases false f.head ≡ [] = none-left (head_faults bases false f.head) _ (none-left _ _ (none-left _ _ (none-left _ _ none))) in over-same false f head

  join-over : (last_line : ℕ) (f : FormatLines) → join_faults bases last_line f ≡ [] → IsSameOver bases others true f
  join-over last_line f none =
      let head : head_faults bases true f.head ≡ [] =
      none-left (head_faults bases true f.head) _ (none-left _ _ (none-left _ _ (none-left _ _ (none-left _ _ (none-left _ _ none))))) in over-same true f head

  each-none : (faults : FormatLines → List DdsFault) (P : FormatLines → Type 0) → ((f : FormatLines) → faults f ≡ [] → P f) → (fs : List FormatLines) → flat_map faults fs ≡ [] → AllByRecursion P fs
  each-none faults P so [] none = tt
  each-none faults P so (f ∷ fs) none =
      (so f (none-left (faults f) (flat_map faults fs) none), each-none faults P so fs (none-right (faults f) (flat_map faults fs) none))

  formats-over : (source : Source) (b : Bool) (fs : List FormatLines) → formats_at_fault bases source b fs ≡ [] → AllByRecursion (IsSameOver bases others b) fs
  formats-over source true fs none = each-none (join_faults bases source.last_line) (IsSameOver bases others true) (join-over source.last_line) fs none
  formats-over source false fs none =
      each-none (view_faults bases source.last_line (is_multi_format fs)) (IsSameOver bases others false) (view-over source.last_line (is_multi_format fs)) fs
      (none-left (flat_map (view_faults bases source.last_line (is_multi_format fs)) fs) _ none)

  all-over : (source : Source) (b : Bool) (fs : List FormatLines) → faults_over bases source b fs ≡ [] → AllByRecursion (IsSameOver bases others b) fs
  all-over source b fs none = formats-over source b fs (none-right _ (formats_at_fault bases source b fs) (none-left _ _ none))

  no-fault : (made spec : LogicalSpec) (o : Option DdsFault) → unless_fault made o ≡ Ok spec → o ≡ None
  no-fault made spec None h = refl
  no-fault made spec (Some fault) h = absurd cc

  formats-are : (source : Source) (spec : LogicalSpec) → logical_of bases source ≡ Ok spec
      → AllByRecursion (IsSameOver bases others (is_join_file (formats_in source.specifications))) (formats_in source.specifications)
  unfolding logical_of logical_specification logical_faults
  formats-are source spec h =
      let fs : List FormatLines = formats_in source.specifications in
      all-over source (is_join_file fs) fs
      (nothing_noted None (faults_over bases source (is_join_file fs) fs) (no-fault (described_by bases source fs) spec (first_after None (faults_over bases source (is_join_file fs) fs)) h))

  pub logical-wider : (source : Source) (spec : LogicalSpec) → logical_of bases source ≡ Ok spec → logical_of others source ≡ Ok spec
  logical-wider source spec h = logical-same bases others source (formats-are source spec h) ∙ h
