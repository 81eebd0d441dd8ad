-- A join that a data description describes is joined from earlier files, by fields of theirs, and shows fields of its files.
use Rattle.std.proofs.Common.{◌≡◌, ℕ, zero, suc, ◌+◌, ◌<◌, ◌==◌, ◌||◌, nat_lt, Bool, true, false, not, cond, codes, Option, Some, None, IfSome, IsSome, Ok, List, [], ◌∷◌, ◌++◌}
use Rattle.std.proofs.Common.{length, map, drop, Contains, refl, sym, ◌∙◌, ap, subst, arith}
use Rattle.std.specs.Prelude.{filter}
use Rattle.std.specs.List.{AllByRecursion, filter_map, flat_map}
use Rattle.std.proofs.lemmas.Bool.{cond_both, eqb-true, not-false}
use Rattle.std.proofs.lemmas.Bool.Decides.{nat_tests}
use Rattle.field_values.specs.FieldTypes.{width}
use Rattle.record_fmt.specs.declared.formats.Field.{Field}
use Rattle.record_fmt.specs.Layout.{IsLaidOut, lies_from}
use Rattle.file_model.specs.declared.joins.JoinPair.{JoinPair}
use Rattle.dds_source.specs.declared.faults.DdsFault.{DdsFault}
use Rattle.dds_source.specs.declared.keywords.Keyword.{Keyword}
use Rattle.dds_source.specs.declared.specifications.Source.{Source}
use Rattle.dds_source.specs.declared.specifications.Specification.{Specification}
use Rattle.dds_source.specs.Faults.{first_after}
use Rattle.logical_paths.below.dds_physical.specs.declared.physical_files.PhysicalSpec.{PhysicalSpec}
use Rattle.logical_paths.specs.Keywords.{has_name, first_named, arguments_of}
use Rattle.logical_paths.specs.Names.{field_named}
use Rattle.logical_paths.proofs.FaultLemmas.{nothing_noted}
use Rattle.dds_logical.specs.declared.join_views.JoinedFile.{JoinedFile}
use Rattle.dds_logical.specs.declared.join_views.JoinView.{JoinView}
use Rattle.dds_logical.specs.declared.views.View.{View}
use Rattle.dds_logical.specs.declared.views.LogicalSpec.{LogicalSpec}
use Rattle.dds_logical.specs.declared.views.LogicalSpec.TheVariants.{Simple, Multi, Join}
use Rattle.dds_logical.specs.Bases.{fields_of_file}
use Rattle.dds_logical.specs.Complete.{IsFileComplete}
use Rattle.dds_logical.specs.Fields.{field_entry_faults, field_of_line, laid_out}
use Rattle.dds_logical.specs.FormatLines.{FormatLines, formats_in, field_lines, join_lines, key_lines, is_join_file, is_multi_format}
use Rattle.dds_logical.specs.JoinFields.{PlacedField, place_of_line, placed, placed_at, placed_fields, placed_faults, several_faults, join_field_faults, join_fields_faults, primary_key_faults}
use Rattle.dds_logical.specs.JoinLines.{link_between, link_of_names, link_said, link_of, leads_to, lines_to, pair_of_fields, pair_of_names, pair_said, fields_at, place_or_first, place_from}
use Rattle.dds_logical.specs.JoinLines.{joined_by, joined_by_first, joined_from, is_one_unreached, link_faults, join_line_faults}
use Rattle.dds_logical.specs.JoinViews.{fields_joined, fields_placed, files_joined, first_file, join_described, join_faults, join_format_fields, join_parts, joined_field}
use Rattle.dds_logical.specs.JoinWhole.{IsFirstComplete, IsJoinComplete}
use Rattle.dds_logical.specs.KeywordArguments.{names_among}
use Rattle.dds_logical.specs.Keys.{key_lines_faults}
use Rattle.dds_logical.specs.Logical.{view_described, most_parts, one_or_several, join_described_by, described_by, formats_at_fault, faults_over, logical_specification, logical_faults, logical_of}
use Rattle.dds_logical.specs.Origins.{keyword_names}
use Rattle.dds_logical.specs.WholeFile.{head_faults, size_faults}
use Rattle.dds_logical.proofs.CompleteLemmas.{nothing_in, not_wrong}
use Rattle.dds_logical.proofs.JoinCompleteLemmas.{complete_unless}
use Rattle.logical_model.specs.Bases.{Bases, base_names}
use Rattle.logical_paths.specs.Mapped.{AreBasesOf}
use Rattle.logical_paths.proofs.MappedLemmas.{described-there}
use Rattle.logical_paths.specs.KeyedViews.{IsShownOf, AreLaidOut}
use Rattle.logical_paths.proofs.DescribedLemmas.{found-right, name-fields}
use Rattle.logical_paths.proofs.OriginLemmas.{each-filter_map, field-there, flat-nothing, line-shown, own-shown}
use Rattle.join_records.specs.Linked.{AreFieldsOf, AreLinked, IsLinked, IsLinkedJoin, IsLinkedLogical, IsShownFrom, fields_under}

-- ---- lists

or-none : (a b : Bool) → (a || b) ≡ false → (a ≡ false) × (b ≡ false)
or-none true b h = absurd cc
or-none false b h = (refl, h)

filter-true : {A : Type 0} (test : A → Bool) (xs : List A) → AllByRecursion (λ x. test x ≡ true) (filter test xs)
filter-true test [] = tt
filter-true test (x ∷ xs) = by (test x) refl (filter-true test xs)
  where
    by : (b : Bool) → test x ≡ b → AllByRecursion (λ y. test y ≡ true) (filter test xs) → AllByRecursion (λ y. test y ≡ true) (cond b (x ∷ filter test xs) (filter test xs))
    by true is rest = (is, rest)
    by false is rest = rest

one-line : (lines : List Specification) → (length lines == 1) ≡ true → (s : Specification) × (lines ≡ s ∷ [])
one-line [] is = let long : 0 ≡ 1 = eqb-true 0 1 is in absurd (omega (arith, long))
one-line (s ∷ []) is = (s, refl)
one-line (s ∷ t ∷ more) is = let long : suc (suc (length more)) ≡ 1 = eqb-true (length (s ∷ t ∷ more)) 1 is in absurd (omega (arith, long))

always : {A : Type 0} (xs : List A) → AllByRecursion (λ x. Unit {0}) xs
always [] = tt
always (x ∷ xs) = (tt, always xs)

-- what holds of each list of fields holds of that at a place, where it holds of none
pub at-each : (P : List Field → Type 0) (all : List (List Field)) → P [] → AllByRecursion P all → (place : ℕ) → P (fields_at all place)
at-each P [] none each place = none
at-each P (fields ∷ all) none each zero = each.0
at-each P (fields ∷ all) none each (suc place) = at-each P all none each.1 place

pub each-mapped : {A B : Type 0} (P : B → Type 0) (f : A → B) (xs : List A) → AllByRecursion (λ x. P (f x)) xs → AllByRecursion P (map f xs)
each-mapped P f [] all = tt
each-mapped P f (x ∷ xs) all = (all.0, each-mapped P f xs all.1)

pub each-weaker : {A : Type 0} (P Q : A → Type 0) (xs : List A) → ((x : A) → P x → Q x) → AllByRecursion P xs → AllByRecursion Q xs
each-weaker P Q [] so all = tt
each-weaker P Q (x ∷ xs) so all = (so x all.0, each-weaker P Q xs so all.1)

-- ---- which file is joined to which

-- a line that leads to a file joins it from an earlier one
between-forward : (place : ℕ) (from to : Option ℕ) → leads_to place (link_between from to) ≡ true → place_or_first (link_between from to) < place
between-forward place None to is = absurd cc
between-forward place (Some from) None is = absurd cc
between-forward place (Some from) (Some to) is = by (nat_lt from to) refl is
  where
    by : (b : Bool) → nat_lt from to ≡ b → leads_to place (cond b (Some (record { from = from; to = to })) None) ≡ true → place_or_first (cond b (Some (record { from = from; to = to })) None) < place
    by true e h =
        let less : from < to = grind (arith, nat_tests, e) in
        let same : to ≡ place = eqb-true to place h in
        omega (arith, less, same)
    by false e h = absurd cc

names-forward : (place : ℕ) (files names : List (List ℕ)) → leads_to place (link_of_names files names) ≡ true → place_or_first (link_of_names files names) < place
names-forward place files [] is = absurd cc
names-forward place files (a ∷ []) is = absurd cc
names-forward place files (a ∷ b ∷ []) is = between-forward place (place_from 0 files a) (place_from 0 files b) is
names-forward place files (a ∷ b ∷ c ∷ more) is = absurd cc

said-forward : (place : ℕ) (files : List (List ℕ)) (o : Option Keyword) → leads_to place (link_said files o) ≡ true → place_or_first (link_said files o) < place
said-forward place files None is = by (length files == 2) is
  where
    by : (b : Bool) → leads_to place (cond b (Some (record { from = 0; to = 1 })) None) ≡ true → place_or_first (cond b (Some (record { from = 0; to = 1 })) None) < place
    by true h = let same : 1 ≡ place = eqb-true 1 place h in omega (arith, same)
    by false h = absurd cc
said-forward place files (Some k) is = names-forward place files (names_among (arguments_of k)) is

-- ---- by which fields

fields-from : (from : List Field) (lies : lies_from 0 from ≡ true) (a b : Option Field) → IfSome a (Contains from) → IfSome (pair_of_fields a b) (λ pair. IsShownOf from pair.from)
fields-from from lies None b there = tt
fields-from from lies (Some f) None there = tt
fields-from from lies (Some f) (Some g) there = own-shown from lies f there

names-from : (from to : List Field) (lies : lies_from 0 from ≡ true) (names : List (List ℕ)) → IfSome (pair_of_names from to names) (λ pair. IsShownOf from pair.from)
names-from from to lies [] = tt
names-from from to lies (a ∷ []) = tt
names-from from to lies (a ∷ b ∷ more) = fields-from from lies (field_named a from) (field_named b to) (field-there a from)

keyword-from : (from to : List Field) (lies : lies_from 0 from ≡ true) (k : Keyword) → IfSome (pair_said from to k) (λ pair. IsShownOf from pair.from)
keyword-from from to lies k =
    cond_both (has_name (codes "JFLD") k) (pair_of_names from to (names_among (arguments_of k))) None (λ (o : Option JoinPair). IfSome o (λ pair. IsShownOf from pair.from))
    (λ _. names-from from to lies (names_among (arguments_of k))) (λ _. tt)

keywords-from : (from to : List Field) (lies : lies_from 0 from ≡ true) (ks : List Keyword) → AllByRecursion (λ pair. IsShownOf from pair.from) (filter_map (pair_said from to) ks)
keywords-from from to lies ks =
    each-filter_map (λ k. Unit {0}) (λ (pair : JoinPair). IsShownOf from pair.from) (pair_said from to) (λ k _. keyword-from from to lies k) ks (always ks)

-- ---- the secondary files

module _ (files : List (List ℕ)) (all : List (List Field)) (lies : (place : ℕ) → lies_from 0 (fields_at all place) ≡ true) (ss : List Specification) where
  line-linked : (file : List ℕ) (place : ℕ) (s : Specification) → leads_to place (link_of files s) ≡ true → IsLinked all place (joined_by all file place (link_of files s) s)
  line-linked file place s is = record {
    from = said-forward place files (first_named (codes "JOIN") s.keywords) is;
    pairs = keywords-from (fields_at all (place_or_first (link_of files s))) (fields_at all place) (lies (place_or_first (link_of files s))) s.keywords;
  }

  -- each is reached by one line
  reached : (place : ℕ) (more : List (List ℕ)) → is_one_unreached files ss place more ≡ false → AreLinked all place (joined_from files all ss place more)
  reached place [] none = tt
  reached place (file ∷ more) none =
      let parts = or-none (not (length (lines_to files ss place) == 1)) (is_one_unreached files ss (place + 1) more) none in
      let line = one-line (lines_to files ss place) (not-false (length (lines_to files ss place) == 1) parts.0) in
      let each : AllByRecursion (λ s. leads_to place (link_of files s) ≡ true) (line.0 ∷ []) =
      subst (λ (ls : List Specification). AllByRecursion (λ s. leads_to place (link_of files s) ≡ true) ls) line.1 (filter-true (λ s. leads_to place (link_of files s)) ss) in
      subst (λ (ls : List Specification). AreLinked all place (joined_by_first files all file place ls ++ joined_from files all ss (place + 1) more)) (sym line.1)
      (line-linked file place line.0 each.0, reached (place + 1) more parts.1)

-- so the files are those of the lines
each-named : (files : List (List ℕ)) (all : List (List Field)) (ss : List Specification) (place : ℕ) (more : List (List ℕ)) → is_one_unreached files ss place more ≡ false
    → map (λ (joined : JoinedFile). joined.file) (joined_from files all ss place more) ≡ more
each-named files all ss place [] none = refl
each-named files all ss place (file ∷ more) none =
    let parts = or-none (not (length (lines_to files ss place) == 1)) (is_one_unreached files ss (place + 1) more) none in
    let line = one-line (lines_to files ss place) (not-false (length (lines_to files ss place) == 1) parts.0) in
    subst (λ (ls : List Specification). map (λ (joined : JoinedFile). joined.file) (joined_by_first files all file place ls ++ joined_from files all ss (place + 1) more) ≡ file ∷ more) (sym line.1)
    (ap (λ (names : List (List ℕ)). file ∷ names) (each-named files all ss (place + 1) more parts.1))

-- where nothing is wrong with them
all-reached : (files : List (List ℕ)) (ss : List Specification) (o : Option Keyword) → files ≡ keyword_names o → 0 < length files → link_faults files ss o ≡ []
    → is_one_unreached files ss 1 (drop 1 files) ≡ false
all-reached files ss None is some none = let zero_is : length files ≡ 0 = ap (λ (xs : List (List ℕ)). length xs) is in absurd (omega (arith, some, zero_is))
all-reached files ss (Some k) is some none = (or-none _ (is_one_unreached files ss 1 (drop 1 files)) (not_wrong _ _ none)).1

-- ---- the fields of the format

abbrev IsPlacedWell : List (List Field) → PlacedField → Type 0
IsPlacedWell all f = IsShownOf (fields_at all f.place) f.named.shown.field

named-well : (all : List (List Field)) (usage : Option ℕ) (place : ℕ) (o : Option _) (made : Option PlacedField) → placed usage place o ≡ made → IfSome o (λ f. IsShownOf (fields_at all place) f.shown.field)
    → IfSome made (IsPlacedWell all)
named-well all usage place None made is shown = subst (λ (m : Option PlacedField). IfSome m (IsPlacedWell all)) is tt
named-well all usage place (Some f) made is shown = subst (λ (m : Option PlacedField). IfSome m (IsPlacedWell all)) is shown

line-well : (all : List (List Field)) → ((place : ℕ) → lies_from 0 (fields_at all place) ≡ true) → (s : Specification) (o : Option ℕ) (reference : Option Keyword)
    → placed_faults all s o reference ≡ [] → IfSome (placed_at all s o) (IsPlacedWell all)
line-well all lies s None reference none = tt
line-well all lies s (Some place) reference none =
    named-well all s.columns.usage place (field_of_line true (fields_at all place) s) _ refl (line-shown (fields_at all place) (lies place) true s none)

lines-well : (all : List (List Field)) → ((place : ℕ) → lies_from 0 (fields_at all place) ≡ true) → (files : List (List ℕ)) (ss : List Specification) → join_fields_faults files all ss ≡ []
    → AllByRecursion (IsPlacedWell all) (placed_fields files all ss)
lines-well all lies files ss none =
    let each = flat-nothing (join_field_faults files all) ss (nothing_in _ (flat_map (join_field_faults files all) ss) none).1 in
    each-filter_map (λ s. join_field_faults files all s ≡ []) (IsPlacedWell all) (λ s. placed_at all s (place_of_line files all s))
    (λ s faults. line-well all lies s (place_of_line files all s) (first_named (codes "JREF") s.keywords)
    (nothing_in (field_entry_faults true s) (placed_faults all s (place_of_line files all s) (first_named (codes "JREF") s.keywords))
    (nothing_in _ (several_faults all s (first_named (codes "JREF") s.keywords)) faults).0).1) ss each

format-fields : (at : ℕ) (fields : List PlacedField) → AreFieldsOf (laid_out at (map (λ (f : PlacedField). f.named) fields)) (map joined_field fields)
format-fields at [] = tt
format-fields at (f ∷ fields) = (refl, format-fields (at + width f.named.shown.field.ty) fields)

-- ---- the whole

module _ (described : List ℕ → Option PhysicalSpec) (bases : Bases) (are : AreBasesOf described bases) where
  same-fields : (names : List (List ℕ)) → AllByRecursion (λ name. IsSome (described name)) names → map (fields_of_file described) names ≡ map (λ (name : List ℕ). (bases name).fields) names
  same-fields [] there = refl
  same-fields (name ∷ names) there = λ i. name-fields described bases name are there.0 i ∷ same-fields names there.1 i

  first-again : (files : List (List ℕ)) → 0 < length files → first_file files ∷ drop 1 files ≡ files
  first-again [] some = absurd (omega (arith, some))
  first-again (file ∷ files) some = refl

  pub join-linked : (last_line : ℕ) (ks : List Keyword) (f : FormatLines) → join_faults described last_line f ≡ [] → IsJoinComplete described f
      → AllByRecursion (λ name. IsSome (described name)) (base_names (Join (join_described described ks f)))
      → AllByRecursion (λ name. IsLaidOut (bases name).fields) (base_names (Join (join_described described ks f))) → IsLinkedJoin bases (join_described described ks f)
  join-linked last_line ks f none complete there laid =
      let files : List (List ℕ) = files_joined f in
      let all : List (List Field) = map (fields_of_file described) files in
      let view : JoinView = join_described described ks f in
      let first = nothing_in _ (size_faults last_line (join_format_fields described f) (join_parts described f)) none in
      let primary = nothing_in _ (flat_map (primary_key_faults (fields_placed described f)) (key_lines f)) first.0 in
      let keys = nothing_in _ (key_lines_faults true false (join_format_fields described f) (key_lines f)) primary.0 in
      let fields = nothing_in _ (join_fields_faults files (fields_joined described f) (field_lines f)) keys.0 in
      let lines = nothing_in _ (flat_map (join_line_faults files (fields_joined described f)) (join_lines f)) fields.0 in
      let links = nothing_in (head_faults described true f.head) (link_faults files (join_lines f) (first_named (codes "JFILE") f.head.keywords)) lines.0 in
      let reach : is_one_unreached files (join_lines f) 1 (drop 1 files) ≡ false =
      all-reached files (join_lines f) (first_named (codes "JFILE") f.head.keywords) refl complete.some links.1 in
      let names : base_names (Join view) ≡ files =
      ap (λ (more : List (List ℕ)). first_file files ∷ more) (each-named files all (join_lines f) 1 (drop 1 files) reach) ∙ first-again files complete.some in
      let same : fields_under bases view ≡ all =
      sym (ap (map (fields_of_file described)) (sym names) ∙ same-fields (base_names (Join view)) there) in
      let lies : (place : ℕ) → lies_from 0 (fields_at all place) ≡ true =
      at-each (λ (under : List Field). lies_from 0 under ≡ true) all refl
      (subst (AllByRecursion (λ (under : List Field). lies_from 0 under ≡ true)) same
      (each-mapped (λ (under : List Field). lies_from 0 under ≡ true) (λ (name : List ℕ). (bases name).fields) (base_names (Join view))
      (each-weaker (λ (name : List ℕ). IsLaidOut (bases name).fields) (λ (name : List ℕ). lies_from 0 (bases name).fields ≡ true) (base_names (Join view)) (λ name is. is.lies) laid))) in
      record {
        linked = subst (λ (under : List (List Field)). AreLinked under 1 view.secondaries) (sym same) (reached files all lies (join_lines f) 1 (drop 1 files) reach);
        shown = subst (λ (under : List (List Field)). AllByRecursion (IsShownFrom under) view.fields) (sym same)
            (each-mapped (IsShownFrom all) joined_field (fields_placed described f) (lines-well all lies files (field_lines f) fields.1));
        format = format-fields 0 (fields_placed described f);
      }

-- ---- a source

several-join : (views : List View) (view : JoinView) → one_or_several views ≡ Join view → ⊥
several-join [] view is = absurd cc
several-join (v ∷ []) view is = absurd cc
several-join (v ∷ w ∷ views) view is = absurd cc

-- what no fault of a source leaves of a join
abbrev IsJoinLinked : (List ℕ → Option PhysicalSpec) → Bases → LogicalSpec → Type 0
IsJoinLinked described bases spec = (view : JoinView) → spec ≡ Join view → AllByRecursion (λ name. IsSome (described name)) (base_names spec) → AreLaidOut bases spec → IsLinkedJoin bases view

join-source : (described : List ℕ → Option PhysicalSpec) (bases : Bases) (source : Source) (fs : List FormatLines) → AreBasesOf described bases → faults_over described source true fs ≡ []
    → IsFirstComplete described fs → IsJoinLinked described bases (join_described_by described source.file fs)
join-source described bases source [] are none complete view is there laid = absurd cc
join-source described bases source (f ∷ fs) are none complete view is there laid =
    let formats : formats_at_fault described source true (f ∷ fs) ≡ [] = (nothing_in _ (formats_at_fault described source true (f ∷ fs)) (nothing_in _ _ none).0).1 in
    let own : join_faults described source.last_line f ≡ [] = (nothing_in (join_faults described source.last_line f) (flat_map (join_faults described source.last_line) fs) formats).0 in
    let same : join_described described source.file f ≡ view = cc in
    subst (IsLinkedJoin bases) same (join-linked described bases are source.last_line source.file f own complete there laid)

join-complete : (described : List ℕ → Option PhysicalSpec) (source : Source) (fs : List FormatLines) → faults_over described source (is_join_file fs) fs ≡ [] → is_join_file fs ≡ true
    → IsFirstComplete described fs
join-complete described source fs none join =
    let found : None ≡ first_after None (faults_over described source (is_join_file fs) fs) = sym (ap (first_after None) none) in
    let whole : IsFileComplete described (is_join_file fs) fs = complete_unless described source fs None found in
    subst (λ (b : Bool). IsFileComplete described b fs) join whole

file-linked : (described : List ℕ → Option PhysicalSpec) (bases : Bases) (source : Source) (fs : List FormatLines) → AreBasesOf described bases → faults_over described source (is_join_file fs) fs ≡ []
    → IsJoinLinked described bases (described_by described source fs)
file-linked described bases source fs are none =
    cond_both (is_join_file fs) (join_described_by described source.file fs) (one_or_several (map (view_described described source.file (is_multi_format fs) (most_parts fs)) fs))
    (IsJoinLinked described bases)
    (λ join. join-source described bases source fs are (subst (λ (b : Bool). faults_over described source b fs ≡ []) join none) (join-complete described source fs none join))
    (λ other view is. absurd (several-join (map (view_described described source.file (is_multi_format fs) (most_parts fs)) fs) view is))

source-linked : (described : List ℕ → Option PhysicalSpec) (bases : Bases) (source : Source) (spec : LogicalSpec) → AreBasesOf described bases → logical_of described source ≡ Ok spec
    → IsJoinLinked described bases spec
unfolding logical_of logical_specification logical_faults
source-linked described bases source spec are h =
    let fs : List FormatLines = formats_in source.specifications in
    let faults : List DdsFault = faults_over described source (is_join_file fs) fs in
    let right = found-right spec (described_by described source fs) (first_after None faults) h in
    subst (IsJoinLinked described bases) right.1 (file-linked described bases source fs are (nothing_noted None faults right.0))

pub described-linked : (described : List ℕ → Option PhysicalSpec) (bases : Bases) (source : Source) (spec : LogicalSpec) → AreBasesOf described bases → logical_of described source ≡ Ok spec
    → AreLaidOut bases spec → IsLinkedLogical bases spec
described-linked described bases source (Simple view) are h laid = tt
described-linked described bases source (Multi views) are h laid = tt
described-linked described bases source (Join view) are h laid =
    source-linked described bases source (Join view) are h view refl (described-there described source (Join view) h) laid
