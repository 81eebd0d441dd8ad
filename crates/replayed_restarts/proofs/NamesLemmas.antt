-- A source without a fault names no more files in PFILE or JFILE than those that the journal says it does.
use Rattle.std.proofs.Common.{◌≡◌, ℕ, ◌<◌, nat_le, ◌∙◌, refl, sym, subst, arith, inl, inr, Bool, true, false, not, ◌&&◌, ◌||◌, if◌then◌else◌, codes, Option, Some, None, IfSome, Ok, List, [], ◌∷◌, ◌++◌, length, map, flat_map}
use Rattle.std.specs.List.{AllByRecursion, cons_option, filter_map, list_all}
use Rattle.std.specs.Cmp.Lexicographic.{same_text}
use Rattle.std.proofs.lemmas.Bool.{and_parts, cases_Bool, cond-false, cond-true}
use Rattle.std.proofs.lemmas.Bool.Decides.{nat_tests}
use Rattle.entry_codec.specs.declared.kinds.FileKind.TheVariants.{Logical}
use Rattle.dds_source.specs.declared.arguments.Argument.{Argument}
use Rattle.dds_source.specs.declared.faults.DdsFault.{DdsFault}
use Rattle.dds_source.specs.declared.keywords.Keyword.{Keyword}
use Rattle.dds_source.specs.declared.specifications.Source.{Source}
use Rattle.dds_source.specs.declared.specifications.Specification.{Specification}
use Rattle.dds_source.specs.Entries.{when}
use Rattle.dds_source.specs.Faults.{first_after}
use Rattle.dds_physical.specs.declared.physical_files.PhysicalSpec.{PhysicalSpec}
use Rattle.dds_physical.specs.KeywordRules.{argument_name, is_in_table}
use Rattle.dds_physical.specs.Keywords.{arguments_of, first_named, has_name}
use Rattle.dds_physical.specs.References.{file_of, file_of_keyword}
use Rattle.dds_physical.proofs.FaultLemmas.{nothing_noted}
use Rattle.dds_logical.specs.declared.keyword_places.KeywordPlace.TheVariants as places
use Rattle.dds_logical.specs.declared.views.LogicalSpec.{LogicalSpec}
use Rattle.dds_logical.specs.FormatLines.{FormatLines, formats_in, is_join_file, is_multi_format}
use Rattle.dds_logical.specs.JoinViews.{files_joined}
use Rattle.dds_logical.specs.KeywordArguments.{are_names, fit_logical_keyword, is_file_or_field, names_among, takes_its_arguments}
use Rattle.dds_logical.specs.KeywordRules.{argument_faults, logical_keyword_faults, stands_at, twice_faults, unknown_faults}
use Rattle.dds_logical.specs.Keys.{mismatch_faults}
use Rattle.dds_logical.specs.LineOrder.{order_faults, out_of_order, second_format_faults}
use Rattle.dds_logical.specs.Logical.{base_name, described_by, faults_over, format_parts, formats_at_fault, logical_faults, logical_of, logical_specification, unless_fault, view_faults}
use Rattle.dds_logical.specs.Origins.{keyword_names}
use Rattle.dds_logical.specs.WholeFile.{base_faults, head_faults}
use Rattle.restart_model.specs.Sources.{base_files, names_by}

-- ---- no faults

nothing-in : {X : Type 0} (xs ys : List X) → xs ++ ys ≡ [] → (xs ≡ []) × (ys ≡ [])
nothing-in [] ys h = (refl, h)
nothing-in (x ∷ xs) ys h = absurd cc

not-wrong : (wrong : Bool) (fault : DdsFault) → when wrong fault ≡ [] → wrong ≡ false
not-wrong true fault h = absurd cc
not-wrong false fault h = refl

takes-them : (b : Bool) → (true && not b) ≡ false → b ≡ true
takes-them true h = refl
takes-them false h = absurd cc

no-fault : (spec made : LogicalSpec) (o : Option DdsFault) → unless_fault made o ≡ Ok spec → o ≡ None
no-fault spec made None h = refl
no-fault spec made (Some fault) h = absurd cc

-- ---- PFILE names one file, which is the first

not-more : (n : ℕ) → 1 < n → nat_le n 1 ≡ false
not-more n many = grind (arith, nat_tests)

one-option : (P : List ℕ → Type 0) (o : Option (List ℕ)) → IfSome o P → AllByRecursion P (cons_option o [])
one-option P None here = tt
one-option P (Some name) here = (here, tt)

one-named : (P : List ℕ → Type 0) (args : List Argument) → are_names 1 1 args ≡ true → IfSome (file_of args) P → AllByRecursion P (names_among args)
one-named P [] fit here = tt
one-named P (a ∷ []) fit here = one-option P (argument_name a) here
one-named P (a ∷ b ∷ more) fit here =
    let few = (and_parts (list_all is_file_or_field (a ∷ b ∷ more) && nat_le 1 (length (a ∷ b ∷ more))) (nat_le (length (a ∷ b ∷ more)) 1) fit).1 in
    let many : nat_le (length (a ∷ b ∷ more)) 1 ≡ false = not-more (length (a ∷ b ∷ more)) (omega arith) in
    let clash : ◌≡◌ {A = Bool} true false = sym few ∙ many in
    absurd cc

base-fits : (k : Keyword) → has_name (codes "PFILE") k ≡ true → takes_its_arguments k ≡ true → are_names 1 1 (arguments_of k) ≡ true
base-fits k named takes = fits (and_parts (list_all is_in_table (arguments_of k)) (fit_logical_keyword k (arguments_of k)) takes).1
  where
    fits : fit_logical_keyword k (arguments_of k) ≡ true → are_names 1 1 (arguments_of k) ≡ true
    fits h = subst (λ (n : List ℕ). fit_logical_keyword (record k { name = n }) (arguments_of k) ≡ true) (same_text k.name (codes "PFILE") (sym named)) h

base-said : (ks : List Keyword) → logical_keyword_faults false places.Record ks ≡ [] → (k : Keyword) → first_named (codes "PFILE") ks ≡ Some k → are_names 1 1 (arguments_of k) ≡ true
base-said [] none k found = absurd cc
base-said (first ∷ ks) none k found =
    let known : Bool = stands_at false places.Record first in
    let more = nothing-in (unknown_faults known first ++ argument_faults known first ++ twice_faults known first ks) (logical_keyword_faults false places.Record ks) none in
    let parts = nothing-in (unknown_faults known first) (argument_faults known first)
    (nothing-in (unknown_faults known first ++ argument_faults known first) (twice_faults known first ks) more.0).0 in
    let takes : (known && not (takes_its_arguments first)) ≡ false = not-wrong (known && not (takes_its_arguments first)) _ parts.1 in
    elim (cases_Bool (has_name (codes "PFILE") first)) [
      | inl h ↦
          let both : ◌≡◌ {A = Option Keyword} (Some first) (Some k) = sym (cond-true (has_name (codes "PFILE") first) (Some first) (first_named (codes "PFILE") ks) h) ∙ found in
          let same : first ≡ k = cc in
          subst (λ (x : Keyword). are_names 1 1 (arguments_of x) ≡ true) same
          (base-fits first h (takes-them (takes_its_arguments first) (subst (λ (b : Bool). ((b || has_name (codes "TEXT") first) && not (takes_its_arguments first)) ≡ false) h takes)))
      | inr h ↦ base-said ks more.1 k (sym (cond-false (has_name (codes "PFILE") first) (Some first) (first_named (codes "PFILE") ks) h) ∙ found)
    ]

view-named : (P : List ℕ → Type 0) (o : Option Keyword) → ((k : Keyword) → o ≡ Some k → are_names 1 1 (arguments_of k) ≡ true) → IfSome (file_of_keyword o) P → AllByRecursion P (keyword_names o)
view-named P None fit here = tt
view-named P (Some k) fit here = one-named P (arguments_of k) (fit k refl) here

-- ---- the files that a format names

-- it is so of each
abbrev pub AreNamed : (P : List ℕ → Type 0) → (is_join : Bool) → FormatLines → Type 0
AreNamed P is_join f = AllByRecursion P (keyword_names (first_named (if is_join then codes "JFILE" else codes "PFILE") f.head.keywords))

head-keywords : (bases : List ℕ → Option PhysicalSpec) (is_join : Bool) (s : Specification) → head_faults bases is_join s ≡ [] → logical_keyword_faults is_join places.Record s.keywords ≡ []
head-keywords bases is_join s h =
    (nothing-in _ (logical_keyword_faults is_join places.Record s.keywords)
    (nothing-in _ (base_faults bases (first_named (if is_join then codes "JFILE" else codes "PFILE") s.keywords)) h).0).1

view-head : (bases : List ℕ → Option PhysicalSpec) (last_line : ℕ) (is_multi : Bool) (f : FormatLines) → view_faults bases last_line is_multi f ≡ [] → head_faults bases false f.head ≡ []
view-head bases last_line is_multi f h = (nothing-in (head_faults bases false f.head) _ (nothing-in _ _ (nothing-in _ _ (nothing-in _ _ h).0).0).0).0

format-named : (P : List ℕ → Type 0) (bases : List ℕ → Option PhysicalSpec) (last_line : ℕ) (is_multi : Bool) (f : FormatLines) → view_faults bases last_line is_multi f ≡ []
    → IfSome (base_name f) P → AreNamed P false f
format-named P bases last_line is_multi f none here =
    view-named P (first_named (codes "PFILE") f.head.keywords) (base-said f.head.keywords (head-keywords bases false f.head (view-head bases last_line is_multi f none))) here

first-and-more : (P : List ℕ → Type 0) (o : Option (List ℕ)) (names : List (List ℕ)) → AllByRecursion P (cons_option o names) → IfSome o P × AllByRecursion P names
first-and-more P None names all = (tt, all)
first-and-more P (Some name) names all = (all.0, all.1)

formats-named : (P : List ℕ → Type 0) (bases : List ℕ → Option PhysicalSpec) (last_line : ℕ) (is_multi : Bool) (fs : List FormatLines)
    → flat_map (view_faults bases last_line is_multi) fs ≡ [] → AllByRecursion P (filter_map base_name fs) → AllByRecursion (AreNamed P false) fs
formats-named P bases last_line is_multi [] none all = tt
formats-named P bases last_line is_multi (f ∷ fs) none all =
    let parts = nothing-in (view_faults bases last_line is_multi f) (flat_map (view_faults bases last_line is_multi) fs) none in
    let two = first-and-more P (base_name f) (filter_map base_name fs) all in
    (format-named P bases last_line is_multi f parts.0 two.0, formats-named P bases last_line is_multi fs parts.1 two.1)

views-named : (P : List ℕ → Type 0) (bases : List ℕ → Option PhysicalSpec) (source : Source) (fs : List FormatLines) → faults_over bases source false fs ≡ []
    → AllByRecursion P (filter_map base_name fs) → AllByRecursion (AreNamed P false) fs
views-named P bases source fs none all =
    let formats : formats_at_fault bases source false fs ≡ [] = (nothing-in _ (formats_at_fault bases source false fs) (nothing-in _ _ none).0).1 in
    let views = nothing-in (flat_map (view_faults bases source.last_line (is_multi_format fs)) fs) (mismatch_faults (format_parts bases) [] fs) formats in
    formats-named P bases source.last_line (is_multi_format fs) fs views.0 all

-- a join file has one format
joins-named : (P : List ℕ → Type 0) (bases : List ℕ → Option PhysicalSpec) (source : Source) (f : FormatLines) (fs : List FormatLines) → faults_over bases source true (f ∷ fs) ≡ []
    → AllByRecursion P (files_joined f) → AllByRecursion (AreNamed P true) (f ∷ fs)
joins-named P bases source f [] none all = (all, tt)
joins-named P bases source f (g ∷ fs) none all =
    let several : List FormatLines = f ∷ g ∷ fs in
    let order : order_faults true source.specifications several ≡ [] =
    (nothing-in _ (order_faults true source.specifications several) (nothing-in _ _ (nothing-in _ (formats_at_fault bases source true several) (nothing-in _ _ none).0).0).0).1 in
    let second : out_of_order g.head ∷ map (λ other. out_of_order other.head) fs ≡ [] = (nothing-in _ (second_format_faults true several) order).1 in
    absurd cc

-- ---- a source

all-named : (P : List ℕ → Type 0) (bases : List ℕ → Option PhysicalSpec) (source : Source) (fs : List FormatLines) → faults_over bases source (is_join_file fs) fs ≡ []
    → AllByRecursion P (base_files fs) → AllByRecursion (AreNamed P (is_join_file fs)) fs
all-named P bases source [] none all = tt
all-named P bases source (f ∷ fs) none all = by (is_join_file (f ∷ fs)) none all where
  by : (b : Bool) → faults_over bases source b (f ∷ fs) ≡ [] → AllByRecursion P (if b then files_joined f else filter_map base_name (f ∷ fs)) → AllByRecursion (AreNamed P b) (f ∷ fs)
  by true nothing each = joins-named P bases source f fs nothing each
  by false nothing each = views-named P bases source (f ∷ fs) nothing each

-- what holds of each file that the journal says the source names holds of each that its formats name
pub names-back : (P : List ℕ → Type 0) (bases : List ℕ → Option PhysicalSpec) (source : Source) (spec : LogicalSpec) → logical_of bases source ≡ Ok spec → AllByRecursion P (names_by Logical source)
    → AllByRecursion (AreNamed P (is_join_file (formats_in source.specifications))) (formats_in source.specifications)
unfolding logical_of logical_specification logical_faults
names-back P bases source spec h all =
    let fs : List FormatLines = formats_in source.specifications in
    let faults : List DdsFault = faults_over bases source (is_join_file fs) fs in
    all-named P bases source fs (nothing_noted None faults (no-fault spec (described_by bases source fs) (first_after None faults) h)) all
