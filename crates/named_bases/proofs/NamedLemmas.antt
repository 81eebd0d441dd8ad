-- What holds of each base file of a logical file holds of each file that PFILE or JFILE names in its source.
use Rattle.std.proofs.Common.{◌≡◌, ℕ, ◌+◌, ◌<◌, ◌==◌, nat_le, ◌∙◌, refl, sym, ap, subst, arith, inl, inr, Bool, true, false, not, ◌&&◌, ◌||◌, if◌then◌else◌, codes, Option, Some, None, IfSome, Ok, List, [], ◌∷◌, ◌++◌, length, map, flat_map, drop, Contains}
use Rattle.std.specs.List.{AllByRecursion, cons_option, filter_map, list_all, list_any}
use Rattle.std.specs.Cmp.Lexicographic.{same_text}
use Rattle.std.proofs.lemmas.Bool.{and_parts, cases_Bool, cond-false, cond-true}
use Rattle.std.proofs.lemmas.Bool.Decides.{nat_tests}
use Rattle.std.proofs.lemmas.List.Elements.{All-contains_itself, recursion_from_All}
use Rattle.entry_codec.specs.declared.kinds.FileKind.TheVariants.{Logical}
use Rattle.record_fmt.specs.declared.formats.Field.{Field}
use Rattle.dds_source.specs.declared.arguments.Argument.{Argument}
use Rattle.dds_source.specs.declared.faults.DdsFault.{DdsFault}
use Rattle.dds_source.specs.declared.keywords.Keyword.{Keyword}
use Rattle.dds_source.specs.declared.specifications.Source.{Source}
use Rattle.dds_source.specs.declared.specifications.Specification.{Specification}
use Rattle.dds_source.specs.Entries.{when}
use Rattle.dds_source.specs.Faults.{first_after}
use Rattle.dds_physical.specs.declared.physical_files.PhysicalSpec.{PhysicalSpec}
use Rattle.dds_physical.specs.KeywordRules.{argument_name, is_in_table}
use Rattle.dds_physical.specs.Keywords.{arguments_of, first_named, has_name}
use Rattle.dds_physical.specs.Physical.{name_or_none}
use Rattle.dds_physical.specs.References.{file_of, file_of_keyword}
use Rattle.dds_physical.proofs.FaultLemmas.{nothing_noted}
use Rattle.dds_logical.specs.declared.join_views.JoinedFile.{JoinedFile}
use Rattle.dds_logical.specs.declared.keyword_places.KeywordPlace.TheVariants as places
use Rattle.dds_logical.specs.declared.views.LogicalSpec.{LogicalSpec}
use Rattle.dds_logical.specs.declared.views.LogicalSpec.TheVariants.{Join}
use Rattle.dds_logical.specs.declared.views.View.{View}
use Rattle.dds_logical.specs.FormatLines.{FormatLines, formats_in, is_join_file, is_multi_format, join_lines}
use Rattle.dds_logical.specs.JoinLines.{is_link_wrong, is_one_unreached, joined_by_first, joined_from, lines_to, link_faults}
use Rattle.dds_logical.specs.JoinViews.{fields_joined, files_joined, first_file, join_described, join_faults}
use Rattle.dds_logical.specs.KeywordArguments.{are_names, fit_logical_keyword, is_file_or_field, names_among, takes_its_arguments}
use Rattle.dds_logical.specs.KeywordRules.{argument_faults, logical_keyword_faults, stands_at, twice_faults, unknown_faults}
use Rattle.dds_logical.specs.Keys.{mismatch_faults}
use Rattle.dds_logical.specs.LineOrder.{order_faults, out_of_order, second_format_faults}
use Rattle.dds_logical.specs.Logical.{base_name, described_by, faults_over, format_parts, formats_at_fault, join_described_by, logical_faults, logical_of, logical_specification, most_parts, one_or_several, unless_fault, view_described, view_faults}
use Rattle.dds_logical.specs.Origins.{keyword_names}
use Rattle.dds_logical.specs.WholeFile.{base_faults, head_faults}
use Rattle.logical_model.specs.Bases.{base_names}
use Rattle.restart_model.specs.Sources.{base_files, names_by}

-- ---- lists

each-unmapped : {A B : Type 0} (P : B → Type 0) (f : A → B) (xs : List A) → AllByRecursion P (map f xs) → AllByRecursion (λ x. P (f x)) xs
each-unmapped P f [] all = tt
each-unmapped P f (x ∷ xs) all = (all.0, each-unmapped P f xs all.1)

each-parted : {A : Type 0} (P : A → Type 0) (xs ys : List A) → AllByRecursion P (xs ++ ys) → AllByRecursion P xs × AllByRecursion P ys
each-parted P [] ys all = (tt, all)
each-parted P (x ∷ xs) ys all = let rest = each-parted P xs ys all.1 in ((all.0, rest.0), rest.1)

each-itself : {A : Type 0} (xs : List A) → AllByRecursion (Contains xs) xs
each-itself xs = recursion_from_All (Contains xs) xs (All-contains_itself xs)

-- ---- no faults

nothing-in : {X : Type 0} (xs ys : List X) → xs ++ ys ≡ [] → (xs ≡ []) × (ys ≡ [])
nothing-in [] ys h = (refl, h)
nothing-in (x ∷ xs) ys h = absurd cc

not-wrong : (wrong : Bool) (fault : DdsFault) → when wrong fault ≡ [] → wrong ≡ false
not-wrong true fault h = absurd cc
not-wrong false fault h = refl

neither : (a b : Bool) → (a || b) ≡ false → (a ≡ false) × (b ≡ false)
neither true b h = absurd cc
neither false b h = (refl, h)

takes-them : (b : Bool) → (true && not b) ≡ false → b ≡ true
takes-them true h = refl
takes-them false h = absurd cc

-- ---- PFILE names one file

not-more : (n : ℕ) → 1 < n → nat_le n 1 ≡ false
not-more n many = grind (arith, nat_tests)

one-option : (P : List ℕ → Type 0) (o : Option (List ℕ)) → P (name_or_none o) → AllByRecursion P (cons_option o [])
one-option P None here = tt
one-option P (Some name) here = (here, tt)

one-named : (P : List ℕ → Type 0) (args : List Argument) → are_names 1 1 args ≡ true → P (name_or_none (file_of args)) → AllByRecursion P (names_among args)
one-named P [] fit here = tt
one-named P (a ∷ []) fit here = one-option P (argument_name a) here
one-named P (a ∷ b ∷ more) fit here =
    let few = (and_parts (list_all is_file_or_field (a ∷ b ∷ more) && nat_le 1 (length (a ∷ b ∷ more))) (nat_le (length (a ∷ b ∷ more)) 1) fit).1 in
    let many : nat_le (length (a ∷ b ∷ more)) 1 ≡ false = not-more (length (a ∷ b ∷ more)) (omega arith) in
    let clash : ◌≡◌ {A = Bool} true false = sym few ∙ many in
    absurd cc

base-fits : (k : Keyword) → has_name (codes "PFILE") k ≡ true → takes_its_arguments k ≡ true → are_names 1 1 (arguments_of k) ≡ true
base-fits k named takes = fits (and_parts (list_all is_in_table (arguments_of k)) (fit_logical_keyword k (arguments_of k)) takes).1
  where
    fits : fit_logical_keyword k (arguments_of k) ≡ true → are_names 1 1 (arguments_of k) ≡ true
    fits h = subst (λ (n : List ℕ). fit_logical_keyword (record k { name = n }) (arguments_of k) ≡ true) (same_text k.name (codes "PFILE") (sym named)) h

base-said : (ks : List Keyword) → logical_keyword_faults false places.Record ks ≡ [] → (k : Keyword) → first_named (codes "PFILE") ks ≡ Some k → are_names 1 1 (arguments_of k) ≡ true
base-said [] none k found = absurd cc
base-said (first ∷ ks) none k found =
    let known : Bool = stands_at false places.Record first in
    let more = nothing-in (unknown_faults known first ++ argument_faults known first ++ twice_faults known first ks) (logical_keyword_faults false places.Record ks) none in
    let parts = nothing-in (unknown_faults known first) (argument_faults known first)
    (nothing-in (unknown_faults known first ++ argument_faults known first) (twice_faults known first ks) more.0).0 in
    let takes : (known && not (takes_its_arguments first)) ≡ false = not-wrong (known && not (takes_its_arguments first)) _ parts.1 in
    elim (cases_Bool (has_name (codes "PFILE") first)) [
      | inl h ↦
          let both : ◌≡◌ {A = Option Keyword} (Some first) (Some k) = sym (cond-true (has_name (codes "PFILE") first) (Some first) (first_named (codes "PFILE") ks) h) ∙ found in
          let same : first ≡ k = cc in
          subst (λ (x : Keyword). are_names 1 1 (arguments_of x) ≡ true) same
          (base-fits first h (takes-them (takes_its_arguments first) (subst (λ (b : Bool). ((b || has_name (codes "TEXT") first) && not (takes_its_arguments first)) ≡ false) h takes)))
      | inr h ↦ base-said ks more.1 k (sym (cond-false (has_name (codes "PFILE") first) (Some first) (first_named (codes "PFILE") ks) h) ∙ found)
    ]

view-named : (P : List ℕ → Type 0) (o : Option Keyword) → ((k : Keyword) → o ≡ Some k → are_names 1 1 (arguments_of k) ≡ true) → P (name_or_none (file_of_keyword o))
    → AllByRecursion P (keyword_names o)
view-named P None fit here = tt
view-named P (Some k) fit here = one-named P (arguments_of k) (fit k refl) here

-- ---- the files that a format names

-- it is so of each
abbrev pub AreNamed : (P : List ℕ → Type 0) → (is_join : Bool) → FormatLines → Type 0
AreNamed P is_join f = AllByRecursion P (keyword_names (first_named (if is_join then codes "JFILE" else codes "PFILE") f.head.keywords))

head-keywords : (bases : List ℕ → Option PhysicalSpec) (is_join : Bool) (s : Specification) → head_faults bases is_join s ≡ [] → logical_keyword_faults is_join places.Record s.keywords ≡ []
head-keywords bases is_join s h =
    (nothing-in _ (logical_keyword_faults is_join places.Record s.keywords)
    (nothing-in _ (base_faults bases (first_named (if is_join then codes "JFILE" else codes "PFILE") s.keywords)) h).0).1

view-head : (bases : List ℕ → Option PhysicalSpec) (last_line : ℕ) (is_multi : Bool) (f : FormatLines) → view_faults bases last_line is_multi f ≡ [] → head_faults bases false f.head ≡ []
view-head bases last_line is_multi f h = (nothing-in (head_faults bases false f.head) _ (nothing-in _ _ (nothing-in _ _ (nothing-in _ _ h).0).0).0).0

format-named : (P : List ℕ → Type 0) (bases : List ℕ → Option PhysicalSpec) (last_line : ℕ) (is_multi : Bool) (f : FormatLines) → view_faults bases last_line is_multi f ≡ []
    → P (name_or_none (base_name f)) → AreNamed P false f
format-named P bases last_line is_multi f none here =
    view-named P (first_named (codes "PFILE") f.head.keywords) (base-said f.head.keywords (head-keywords bases false f.head (view-head bases last_line is_multi f none))) here

formats-named : (P : List ℕ → Type 0) (bases : List ℕ → Option PhysicalSpec) (last_line : ℕ) (is_multi : Bool) (fs : List FormatLines)
    → flat_map (view_faults bases last_line is_multi) fs ≡ [] → AllByRecursion (λ (f : FormatLines). P (name_or_none (base_name f))) fs → AllByRecursion (AreNamed P false) fs
formats-named P bases last_line is_multi [] none all = tt
formats-named P bases last_line is_multi (f ∷ fs) none all =
    let parts = nothing-in (view_faults bases last_line is_multi f) (flat_map (view_faults bases last_line is_multi) fs) none in
    (format-named P bases last_line is_multi f parts.0 all.0, formats-named P bases last_line is_multi fs parts.1 all.1)

-- ---- files that aren't joins

several-bases : (P : List ℕ → Type 0) (views : List View) → AllByRecursion P (base_names (one_or_several views)) → AllByRecursion (λ (view : View). P view.base) views
several-bases P [] all = tt
several-bases P (v ∷ []) all = (all.0, tt)
several-bases P (v ∷ w ∷ views) all = each-unmapped P (λ (view : View). view.base) (v ∷ w ∷ views) all

views-named : (P : List ℕ → Type 0) (bases : List ℕ → Option PhysicalSpec) (source : Source) (fs : List FormatLines) → faults_over bases source false fs ≡ []
    → AllByRecursion P (base_names (one_or_several (map (view_described bases source.file (is_multi_format fs) (most_parts fs)) fs))) → AllByRecursion (AreNamed P false) fs
views-named P bases source fs none all =
    let formats : formats_at_fault bases source false fs ≡ [] = (nothing-in _ (formats_at_fault bases source false fs) (nothing-in _ _ none).0).1 in
    let views = nothing-in (flat_map (view_faults bases source.last_line (is_multi_format fs)) fs) (mismatch_faults (format_parts bases) [] fs) formats in
    let described : List View = map (view_described bases source.file (is_multi_format fs) (most_parts fs)) fs in
    formats-named P bases source.last_line (is_multi_format fs) fs views.0
    (each-unmapped (λ (view : View). P view.base) (view_described bases source.file (is_multi_format fs) (most_parts fs)) fs (several-bases P described all))

-- ---- joins

-- each secondary file is reached by a line
once-reached : (P : List ℕ → Type 0) (files : List (List ℕ)) (fields : List (List Field)) (file : List ℕ) (place : ℕ) (ss : List Specification) → not (length ss == 1) ≡ false
    → AllByRecursion (λ (joined : JoinedFile). P joined.file) (joined_by_first files fields file place ss) → P file
once-reached P files fields file place [] once all = let clash : ◌≡◌ {A = Bool} true false = once in absurd cc
once-reached P files fields file place (s ∷ ss) once all = all.0

all-reached : (P : List ℕ → Type 0) (files : List (List ℕ)) (fields : List (List Field)) (ss : List Specification) (place : ℕ) (more : List (List ℕ))
    → is_one_unreached files ss place more ≡ false → AllByRecursion (λ (joined : JoinedFile). P joined.file) (joined_from files fields ss place more) → AllByRecursion P more
all-reached P files fields ss place [] reached all = tt
all-reached P files fields ss place (file ∷ more) reached all =
    let parts = neither (not (length (lines_to files ss place) == 1)) (is_one_unreached files ss (place + 1) more) reached in
    let two = each-parted (λ (joined : JoinedFile). P joined.file) (joined_by_first files fields file place (lines_to files ss place)) (joined_from files fields ss (place + 1) more) all in
    (once-reached P files fields file place (lines_to files ss place) parts.0 two.0, all-reached P files fields ss (place + 1) more parts.1 two.1)

first-and-others : (P : List ℕ → Type 0) (files : List (List ℕ)) → P (first_file files) → AllByRecursion P (drop 1 files) → AllByRecursion P files
first-and-others P [] first others = tt
first-and-others P (file ∷ files) first others = (first, others)

join-links : (bases : List ℕ → Option PhysicalSpec) (last_line : ℕ) (f : FormatLines) → join_faults bases last_line f ≡ []
    → link_faults (files_joined f) (join_lines f) (first_named (codes "JFILE") f.head.keywords) ≡ []
join-links bases last_line f h =
    (nothing-in _ (link_faults (files_joined f) (join_lines f) (first_named (codes "JFILE") f.head.keywords))
    (nothing-in _ _ (nothing-in _ _ (nothing-in _ _ (nothing-in _ _ (nothing-in _ _ h).0).0).0).0).0).1

join-named : (P : List ℕ → Type 0) (bases : List ℕ → Option PhysicalSpec) (last_line : ℕ) (ks : List Keyword) (f : FormatLines) → join_faults bases last_line f ≡ []
    → AllByRecursion P (base_names (Join (join_described bases ks f))) → AreNamed P true f
join-named P bases last_line ks f none all = by (first_named (codes "JFILE") f.head.keywords) refl (join-links bases last_line f none) where
  by : (o : Option Keyword) → first_named (codes "JFILE") f.head.keywords ≡ o → link_faults (files_joined f) (join_lines f) o ≡ [] → AllByRecursion P (files_joined f)
  by None is h = subst (AllByRecursion P) (sym (ap keyword_names is)) tt
  by (Some k) is h =
      let reached = (neither (list_any (λ s. is_link_wrong (files_joined f) (first_named (codes "JOIN") s.keywords)) (join_lines f))
      (is_one_unreached (files_joined f) (join_lines f) 1 (drop 1 (files_joined f))) (not-wrong _ _ h)).1 in
      first-and-others P (files_joined f) all.0
      (all-reached P (files_joined f) (fields_joined bases f) (join_lines f) 1 (drop 1 (files_joined f)) reached
      (each-unmapped P (λ (joined : JoinedFile). joined.file) (joined_from (files_joined f) (fields_joined bases f) (join_lines f) 1 (drop 1 (files_joined f))) all.1))

-- a join file has one format
joins-named : (P : List ℕ → Type 0) (bases : List ℕ → Option PhysicalSpec) (source : Source) (fs : List FormatLines) → faults_over bases source true fs ≡ []
    → AllByRecursion P (base_names (join_described_by bases source.file fs)) → AllByRecursion (AreNamed P true) fs
joins-named P bases source [] none all = tt
joins-named P bases source (f ∷ []) none all =
    let formats : formats_at_fault bases source true (f ∷ []) ≡ [] = (nothing-in _ (formats_at_fault bases source true (f ∷ [])) (nothing-in _ _ none).0).1 in
    (join-named P bases source.last_line source.file f (nothing-in (join_faults bases source.last_line f) [] formats).0 all, tt)
joins-named P bases source (f ∷ g ∷ fs) none all =
    let several : List FormatLines = f ∷ g ∷ fs in
    let order : order_faults true source.specifications several ≡ [] =
    (nothing-in _ (order_faults true source.specifications several) (nothing-in _ _ (nothing-in _ (formats_at_fault bases source true several) (nothing-in _ _ none).0).0).0).1 in
    let second : out_of_order g.head ∷ map (λ other. out_of_order other.head) fs ≡ [] = (nothing-in _ (second_format_faults true several) order).1 in
    absurd cc

-- ---- a source

-- the formats of a file
all-named : (P : List ℕ → Type 0) (bases : List ℕ → Option PhysicalSpec) (source : Source) (fs : List FormatLines) → faults_over bases source (is_join_file fs) fs ≡ []
    → AllByRecursion P (base_names (described_by bases source fs)) → AllByRecursion (AreNamed P (is_join_file fs)) fs
all-named P bases source fs none all = by (is_join_file fs) none all where
  by : (b : Bool) → faults_over bases source b fs ≡ []
      → AllByRecursion P (base_names (if b then join_described_by bases source.file fs
      else one_or_several (map (view_described bases source.file (is_multi_format fs) (most_parts fs)) fs))) → AllByRecursion (AreNamed P b) fs
  by true nothing each = joins-named P bases source fs nothing each
  by false nothing each = views-named P bases source fs nothing each

found-right : (spec made : LogicalSpec) (o : Option DdsFault) → unless_fault made o ≡ Ok spec → (o ≡ None) × (made ≡ spec)
found-right spec made None h = (refl, (let same : made ≡ spec = cc in same))
found-right spec made (Some fault) h = absurd cc

pub source-named : (P : List ℕ → Type 0) (bases : List ℕ → Option PhysicalSpec) (source : Source) (spec : LogicalSpec) → logical_of bases source ≡ Ok spec → AllByRecursion P (base_names spec)
    → AllByRecursion (AreNamed P (is_join_file (formats_in source.specifications))) (formats_in source.specifications)
unfolding logical_of logical_specification logical_faults
source-named P bases source spec h all =
    let fs : List FormatLines = formats_in source.specifications in
    let faults : List DdsFault = faults_over bases source (is_join_file fs) fs in
    let right = found-right spec (described_by bases source fs) (first_after None faults) h in
    all-named P bases source fs (nothing_noted None faults right.0) (subst (λ (made : LogicalSpec). AllByRecursion P (base_names made)) (sym right.1) all)

-- ---- the files that the journal says a source names

first-option : (P : List ℕ → Type 0) (o : Option (List ℕ)) (names : List (List ℕ)) → AllByRecursion P (cons_option o names) → IfSome o P
first-option P None names all = tt
first-option P (Some name) names all = all.0

first-argument : (P : List ℕ → Type 0) (args : List Argument) → AllByRecursion P (names_among args) → IfSome (file_of args) P
first-argument P [] all = tt
first-argument P (a ∷ args) all = first-option P (argument_name a) (names_among args) all

first-name : (P : List ℕ → Type 0) (o : Option Keyword) → AllByRecursion P (keyword_names o) → IfSome (file_of_keyword o) P
first-name P None all = tt
first-name P (Some k) all = first-argument P (arguments_of k) all

cons-each : (P : List ℕ → Type 0) (o : Option (List ℕ)) (names : List (List ℕ)) → IfSome o P → AllByRecursion P names → AllByRecursion P (cons_option o names)
cons-each P None names here all = all
cons-each P (Some name) names here all = (here, all)

bases-each : (P : List ℕ → Type 0) (fs : List FormatLines) → AllByRecursion (AreNamed P false) fs → AllByRecursion P (filter_map base_name fs)
bases-each P [] all = tt
bases-each P (f ∷ fs) all = cons-each P (base_name f) (filter_map base_name fs) (first-name P (first_named (codes "PFILE") f.head.keywords) all.0) (bases-each P fs all.1)

files-each : (P : List ℕ → Type 0) (fs : List FormatLines) → AllByRecursion (AreNamed P (is_join_file fs)) fs → AllByRecursion P (base_files fs)
files-each P [] all = tt
files-each P (f ∷ fs) all = by (is_join_file (f ∷ fs)) all where
  by : (b : Bool) → AllByRecursion (AreNamed P b) (f ∷ fs) → AllByRecursion P (if b then files_joined f else filter_map base_name (f ∷ fs))
  by true each = each.0
  by false each = bases-each P (f ∷ fs) each

pub names-each : (P : List ℕ → Type 0) (bases : List ℕ → Option PhysicalSpec) (source : Source) (spec : LogicalSpec) → logical_of bases source ≡ Ok spec → AllByRecursion P (base_names spec)
    → AllByRecursion P (names_by Logical source)
names-each P bases source spec h all = files-each P (formats_in source.specifications) (source-named P bases source spec h all)

pub formats-among : (bases : List ℕ → Option PhysicalSpec) (source : Source) (spec : LogicalSpec) → logical_of bases source ≡ Ok spec
    → AllByRecursion (AreNamed (Contains (base_names spec)) (is_join_file (formats_in source.specifications))) (formats_in source.specifications)
formats-among bases source spec h = source-named (Contains (base_names spec)) bases source spec h (each-itself (base_names spec))

pub names-among : (bases : List ℕ → Option PhysicalSpec) (source : Source) (spec : LogicalSpec) → logical_of bases source ≡ Ok spec
    → AllByRecursion (Contains (base_names spec)) (names_by Logical source)
names-among bases source spec h = names-each (Contains (base_names spec)) bases source spec h (each-itself (base_names spec))
