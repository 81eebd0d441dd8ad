-- What a data description describes stores in whole fields of its base files, which are there.
use Rattle.std.proofs.Common.{◌≡◌, ℕ, suc, ◌+◌, ◌==◌, nat_eq, nat_le, ◌∙◌, refl, sym, ap, subst, arith, inl, inr, Bool, true, false, not, cond, ◌&&◌, ◌||◌, codes, Option, Some, None, is_some, is_none, IfSome, IsSome, Result, Ok, Err, List, [], ◌∷◌, ◌++◌, length, map, flat_map, drop, Contains}
use Rattle.std.specs.List.{AllByRecursion, list_all, list_any, filter_map, cons_option}
use Rattle.std.specs.Cmp.Lexicographic.{same_text}
use Rattle.std.proofs.lemmas.Bool.{cases_Bool, and_parts, cond_both, cond-true, cond-false, eqb-true}
use Rattle.std.proofs.lemmas.List.Elements.{recursion_from_All, All-contains_itself}
use lib.Pointwise.{pointwise}
use Rattle.field_types.specs.declared.kinds.Kind.{Kind}
use Rattle.field_types.specs.declared.kinds.Kind.TheVariants.{Char, Zoned, Packed, Binary, Date, Time, Stamp}
use Rattle.field_types.specs.declared.kinds.FieldType.{FieldType}
use Rattle.file_model.below.record_fmt.specs.declared.formats.Field.{Field}
use Rattle.dds_physical.below.dds_source.specs.declared.arguments.Argument.{Argument}
use Rattle.dds_physical.below.dds_source.specs.declared.faults.DdsFault.{DdsFault}
use Rattle.dds_physical.below.dds_source.specs.declared.keywords.Keyword.{Keyword}
use Rattle.dds_physical.below.dds_source.specs.declared.specifications.Source.{Source}
use Rattle.dds_physical.below.dds_source.specs.declared.specifications.Specification.{Specification}
use Rattle.dds_physical.specs.Entries.{when}
use Rattle.dds_physical.specs.Faults.{first_after}
use Rattle.dds_physical.specs.declared.physical_files.PhysicalSpec.{PhysicalSpec}
use Rattle.dds_physical.specs.Names.{name_of, field_named}
use Rattle.dds_physical.specs.Keywords.{has_name, first_named, is_there, arguments_of}
use Rattle.dds_physical.specs.KeywordRules.{argument_name, is_in_table}
use Rattle.dds_physical.specs.Attributes.{attributes}
use Rattle.dds_physical.specs.Physical.{name_or_none}
use Rattle.dds_physical.specs.References.{file_of, file_of_keyword}
use Rattle.dds_physical.proofs.FaultLemmas.{nothing_noted}
use Rattle.file_model.specs.declared.views.FieldSource.{FieldSource}
use Rattle.file_model.specs.declared.views.FieldSource.TheVariants.{Copied, Converted, Concatenated, Substring}
use Rattle.logical_model.below.dds_logical.specs.declared.join_views.JoinedFile.{JoinedFile}
use Rattle.logical_model.below.dds_logical.specs.declared.keyword_places.KeywordPlace.TheVariants as places
use Rattle.logical_model.below.dds_logical.specs.declared.limits.TheConstants.{MOST_JOINED}
use Rattle.logical_model.below.dds_logical.specs.declared.views.View.{View}
use Rattle.logical_model.below.dds_logical.specs.declared.views.LogicalSpec.{LogicalSpec}
use Rattle.logical_model.below.dds_logical.specs.declared.views.LogicalSpec.TheVariants.{Join}
use Rattle.logical_model.specs.DdsLogicalBases.{fields_of_base, fields_of_name}
use Rattle.logical_model.specs.Complete.{IsComplete, AreComplete}
use Rattle.logical_model.specs.Fields.{kind_letter, is_same_type, source_at, typed_field, field_over, field_of_line, field_as_it_is, named_fields, mapping_of, is_read_only_mapping, says_read_only}
use Rattle.logical_model.specs.FormatLines.{FormatLines, formats_in, field_lines, join_lines, based_on, is_join_keyword, is_join_file, is_multi_format}
use Rattle.logical_model.specs.JoinLines.{lines_to, joined_by_first, joined_from}
use Rattle.logical_model.specs.JoinViews.{files_joined, fields_joined, first_file, join_described, join_faults}
use Rattle.logical_model.specs.KeywordArguments.{names_among, is_file_or_field, are_names, fit_logical_keyword, takes_its_arguments}
use Rattle.logical_model.specs.KeywordRules.{stands_at, unknown_faults, argument_faults, twice_faults, logical_keyword_faults}
use Rattle.logical_model.specs.Keys.{mismatch_faults}
use Rattle.logical_model.specs.Logical.{base_name, base_of, view_described, most_parts, one_or_several, view_faults, join_described_by, described_by, formats_at_fault, faults_over, unless_fault, logical_specification, logical_faults, logical_of, format_parts}
use Rattle.logical_model.specs.Origins.{Origin, keyword_names, origin_names, fields_of_names, lacks_one, is_character, are_characters, if_within, part_said, whole_field, first_copied, concatenated, part_origin, substring_of, arguments_said, made_of, origin}
use Rattle.logical_model.specs.WholeFile.{is_no_base, base_faults, head_faults}
use Rattle.logical_model.proofs.CompleteLemmas.{complete_file}
use Rattle.logical_model.specs.Bases.{Bases, base_names}
use Rattle.logical_laws.specs.Mapped.{IsFieldAt, IsTextAt, IsSourceMapped, IsFieldMapped, IsViewMapped, IsSpecMapped, AreBasesOf}
use Rattle.logical_laws.proofs.ListLemmas.{each-weaker, each-append, each-map}

-- ---- lists

each-cons : {A : Type 0} (P : A → Type 0) (o : Option A) (xs : List A) → IfSome o P → AllByRecursion P xs → AllByRecursion P (cons_option o xs)
each-cons P None xs here all = all
each-cons P (Some x) xs here all = (here, all)

each-filter_map : {A B : Type 0} (P : B → Type 0) (f : A → Option B) → ((x : A) → IfSome (f x) P) → (xs : List A) → AllByRecursion P (filter_map f xs)
each-filter_map P f so [] = tt
each-filter_map P f so (x ∷ xs) = each-cons P (f x) (filter_map f xs) (so x) (each-filter_map P f so xs)

each-itself : {A : Type 0} (xs : List A) → AllByRecursion (Contains xs) xs
each-itself xs = recursion_from_All (Contains xs) xs (All-contains_itself xs)

-- ---- the type

kind_of : ℕ → Kind
kind_of letter =
    cond (letter == 65) Char (cond (letter == 83) Zoned (cond (letter == 80) Packed (cond (letter == 66) Binary (cond (letter == 76) Date (cond (letter == 84) Time Stamp)))))

kind-back : (k : Kind) → kind_of (kind_letter k) ≡ k
unfolding kind_of
kind-back Char = refl
kind-back Zoned = refl
kind-back Packed = refl
kind-back Binary = refl
kind-back Date = refl
kind-back Time = refl
kind-back Stamp = refl

type-of : (a b : FieldType) → a.kind ≡ b.kind → a.length ≡ b.length → a.decimals ≡ b.decimals → a ≡ b
type-of a b kind long decimals =
    let first : FieldType = record { kind = b.kind; length = a.length; decimals = a.decimals } in
    let second : FieldType = record { kind = b.kind; length = b.length; decimals = a.decimals } in
    let changed : a ≡ first = ap (with-kind a) kind in
    let lengthened : first ≡ second = ap (with-length first) long in
    let scaled : second ≡ b = ap (with-decimals second) decimals in
    changed ∙ lengthened ∙ scaled
  where
    with-kind : FieldType → Kind → FieldType
    with-kind t k = record { kind = k; length = t.length; decimals = t.decimals }

    with-length : FieldType → ℕ → FieldType
    with-length t n = record { kind = t.kind; length = n; decimals = t.decimals }

    with-decimals : FieldType → ℕ → FieldType
    with-decimals t n = record { kind = t.kind; length = t.length; decimals = n }

all-three : (a b c : Bool) → (a && b && c) ≡ true → (a ≡ true) × (b ≡ true) × (c ≡ true)
all-three true true true h = (refl, refl, refl)
all-three false b c h = absurd cc
all-three true false c h = absurd cc
all-three true true false h = absurd cc

same-type : (t u : FieldType) → is_same_type t u ≡ true → t ≡ u
same-type t u h =
    let parts = all-three (kind_letter t.kind == kind_letter u.kind) (t.length == u.length) (t.decimals == u.decimals) h in
    let letter : kind_letter t.kind ≡ kind_letter u.kind = eqb-true (kind_letter t.kind) (kind_letter u.kind) parts.0 in
    type-of t u (sym (kind-back t.kind) ∙ ap kind_of letter ∙ kind-back u.kind) (eqb-true t.length u.length parts.1) (eqb-true t.decimals u.decimals parts.2)

is-char : (k : Kind) → is_character k ≡ true → k ≡ Char
is-char Char h = refl
is-char Zoned h = absurd cc
is-char Packed h = absurd cc
is-char Binary h = absurd cc
is-char Date h = absurd cc
is-char Time h = absurd cc
is-char Stamp h = absurd cc

-- ---- the fields that are named

one-more : (f : Field) (fs : List Field) (o : Option Field) → IfSome o (Contains fs) → IfSome o (Contains (f ∷ fs))
one-more f fs None here = tt
one-more f fs (Some g) here = (suc here.0, omega (arith, here.1), here.2)

field-there : (name : List ℕ) (base : List Field) → IfSome (field_named name base) (Contains base)
field-there name [] = tt
field-there name (f ∷ fs) =
    cond_both (pointwise nat_eq f.name name) (Some f) (field_named name fs) (λ o. IfSome o (Contains (f ∷ fs)))
    (λ _. (0, omega arith, refl)) (λ _. one-more f fs (field_named name fs) (field-there name fs))

fields-there : (base : List Field) (names : List (List ℕ)) → AllByRecursion (Contains base) (fields_of_names base names)
fields-there base names = each-filter_map (Contains base) (λ name. field_named name base) (λ name. field-there name base) names

-- ---- what a field is made of

-- it lies in whole fields of the base file
abbrev IsOriginMapped : List Field → Origin → Type 0
IsOriginMapped base o = IsSourceMapped base o.own_type o.source

texts-there : (base fields : List Field) → AllByRecursion (Contains base) fields → are_characters fields ≡ true → AllByRecursion (IsTextAt base) (map whole_field fields)
texts-there base [] all texts = tt
texts-there base (f ∷ fields) all texts =
    let parts = and_parts (is_character f.ty.kind) (are_characters fields) texts in
    (record { field = f; among = all.0; kind = is-char f.ty.kind parts.0; long = refl; at = refl }, texts-there base fields all.1 parts.1)

concat-mapped : (base fields : List Field) → AllByRecursion (Contains base) fields → IfSome (concatenated fields) (IsOriginMapped base)
concat-mapped base fields all =
    cond_both (are_characters fields) _ None (λ (o : Option Origin). IfSome o (IsOriginMapped base)) (λ texts. texts-there base fields all texts) (λ _. tt)

part-mapped : (base : List Field) (f : Field) (p : _) → IfSome (part_origin f p) (IsOriginMapped base)
part-mapped base f None = tt
part-mapped base f (Some p) = tt

substring-mapped : (base : List Field) (args : List Argument) (fields : List Field) → IfSome (substring_of args fields) (IsOriginMapped base)
substring-mapped base args [] = tt
substring-mapped base args (f ∷ fields) =
    cond_both (is_character f.ty.kind) (part_origin f (if_within f.ty.length (part_said f.ty.length args))) None (λ (o : Option Origin). IfSome o (IsOriginMapped base))
    (λ _. part-mapped base f (if_within f.ty.length (part_said f.ty.length args))) (λ _. tt)

copied-mapped : (base fields : List Field) → AllByRecursion (Contains base) fields → IfSome (first_copied fields) (IsOriginMapped base)
copied-mapped base [] all = tt
copied-mapped base (f ∷ fields) all = record { field = f; among = all.0; ty = refl; at = refl }

made-mapped : (base : List Field) (s : Specification) (fields : List Field) → AllByRecursion (Contains base) fields → IfSome (made_of s fields) (IsOriginMapped base)
made-mapped base s fields all =
    let args : List Argument = arguments_said (first_named (codes "SST") s.keywords) in
    cond_both (is_there (codes "CONCAT") s.keywords) (concatenated fields) (cond (is_there (codes "SST") s.keywords) (substring_of args fields) (first_copied fields))
    (λ (o : Option Origin). IfSome o (IsOriginMapped base)) (λ _. concat-mapped base fields all)
    (λ _. cond_both (is_there (codes "SST") s.keywords) (substring_of args fields) (first_copied fields) (λ (o : Option Origin). IfSome o (IsOriginMapped base))
    (λ _. substring-mapped base args fields) (λ _. copied-mapped base fields all))

origin-mapped : (base : List Field) (s : Specification) → IfSome (origin base s) (IsOriginMapped base)
origin-mapped base s =
    let fields : List Field = fields_of_names base (origin_names s) in
    cond_both (lacks_one base (origin_names s)) None (made_of s fields) (λ (o : Option Origin). IfSome o (IsOriginMapped base))
    (λ _. tt) (λ _. made-mapped base s fields (fields-there base (origin_names s)))

-- ---- the fields of a format

source-mapped : (base : List Field) (t : FieldType) (o : Origin) (source : FieldSource) → IsSourceMapped base o.own_type source → IsSourceMapped base t (source_at t o source)
source-mapped base t o (Copied offset) here =
    cond_both (is_same_type t o.own_type) (Copied offset) (Converted o.own_type offset) (IsSourceMapped base t)
    (λ same. subst (λ (u : FieldType). IsFieldAt base u offset) (sym (same-type t o.own_type same)) here) (λ _. here)
source-mapped base t o (Converted from offset) here = here
source-mapped base t o (Concatenated pieces) here = here
source-mapped base t o (Substring piece) here = tt

typed-mapped : (base : List Field) (s : Specification) (o : Origin) (name : Option (List ℕ)) (typed : Result FieldType DdsFault) (read_only : Bool) → IsOriginMapped base o
    → IfSome (typed_field s o name typed read_only) (λ f. IsFieldMapped base f.shown)
typed-mapped base s o None typed read_only here = tt
typed-mapped base s o (Some name) (Err fault) read_only here = tt
typed-mapped base s o (Some name) (Ok t) read_only here = source-mapped base t o o.source here

over-mapped : (base : List Field) (s : Specification) (o : Option Origin) → IfSome o (IsOriginMapped base) → IfSome (field_over false s o) (λ f. IsFieldMapped base f.shown)
over-mapped base s None here = tt
over-mapped base s (Some o) here =
    typed-mapped base s o (name_of s.name) (attributes s (Some o.own_type)) (is_read_only_mapping false s || says_read_only s.columns.usage) here

named-mapped : (base : List Field) (ss : List Specification) → AllByRecursion (λ f. IsFieldMapped base f.shown) (named_fields base ss)
named-mapped base [] =
    each-map (λ f. IsFieldMapped base f.shown) field_as_it_is base
    (each-weaker (Contains base) (λ f. IsFieldMapped base (field_as_it_is f).shown) (λ f there. record { field = f; among = there; ty = refl; at = refl }) base (each-itself base))
named-mapped base (s ∷ ss) = each-filter_map (λ f. IsFieldMapped base f.shown) (field_of_line false base) (λ line. over-mapped base line (origin base line) (origin-mapped base line)) (s ∷ ss)

lines-mapped : (base : List Field) (ss : List Specification) → AllByRecursion (IsFieldMapped base) (mapping_of (named_fields base ss))
lines-mapped base ss = each-map (IsFieldMapped base) (λ f. f.shown) (named_fields base ss) (named-mapped base ss)

-- ---- no faults

nothing-in : {X : Type 0} (xs ys : List X) → xs ++ ys ≡ [] → (xs ≡ []) × (ys ≡ [])
nothing-in [] ys h = (refl, h)
nothing-in (x ∷ xs) ys h = absurd cc

not-wrong : (wrong : Bool) (fault : DdsFault) → when wrong fault ≡ [] → wrong ≡ false
not-wrong true fault h = absurd cc
not-wrong false fault h = refl

neither : (a b : Bool) → (a || b) ≡ false → (a ≡ false) × (b ≡ false)
neither true b h = absurd cc
neither false b h = (refl, h)

some-if : {A : Type 0} (o : Option A) → is_none o ≡ false → is_some o ≡ true
some-if None h = absurd cc
some-if (Some x) h = refl

what-is : {A : Type 0} (o : Option A) → is_some o ≡ true → (x : A) × (o ≡ Some x)
what-is None h = absurd cc
what-is (Some x) h = (x, refl)

flat-nothing : {X : Type 0} (f : X → List DdsFault) (xs : List X) → flat_map f xs ≡ [] → AllByRecursion (λ x. f x ≡ []) xs
flat-nothing f [] h = tt
flat-nothing f (x ∷ xs) h = let parts = nothing-in (f x) (flat_map f xs) h in (parts.0, flat-nothing f xs parts.1)

-- ---- the files that a format is over

-- all that a keyword names are there
names-there : (described : List ℕ → Option PhysicalSpec) (names : List (List ℕ)) → list_any (is_no_base described) names ≡ false → AllByRecursion (λ name. IsSome (described name)) names
names-there described [] h = tt
names-there described (name ∷ names) h =
    let parts = neither (is_no_base described name) (list_any (is_no_base described) names) h in
    (some-if (described name) parts.0, names-there described names parts.1)

keyword-there : (described : List ℕ → Option PhysicalSpec) (o : Option Keyword) → base_faults described o ≡ [] → AllByRecursion (λ name. IsSome (described name)) (keyword_names o)
keyword-there described None h = tt
keyword-there described (Some k) h = names-there described (names_among (arguments_of k)) (not-wrong (list_any (is_no_base described) (names_among (arguments_of k))) _ h)

-- the file that a keyword names first is one of them
file-among : (a : Argument) (args : List Argument) (o : Option (List ℕ)) (P : List ℕ → Type 0) (name : List ℕ) → o ≡ Some name → AllByRecursion P (cons_option o (names_among args)) → P name
file-among a args None P name e all = absurd cc
file-among a args (Some first) P name e all = (let same : first ≡ name = cc in subst P same all.0)

file-there : (P : List ℕ → Type 0) (args : List Argument) (name : List ℕ) → file_of args ≡ Some name → AllByRecursion P (names_among args) → P name
file-there P [] name e all = absurd cc
file-there P (a ∷ args) name e all = file-among a args (argument_name a) P name e all

named-there : (P : List ℕ → Type 0) (o : Option Keyword) (name : List ℕ) → file_of_keyword o ≡ Some name → AllByRecursion P (keyword_names o) → P name
named-there P None name e all = absurd cc
named-there P (Some k) name e all = file-there P (arguments_of k) name e all

-- a format is over this file, which is there
record IsOver (described : List ℕ → Option PhysicalSpec) (f : FormatLines) : Type 0 where
  name : List ℕ
  is : base_name f ≡ Some name
  there : IsSome (described name)

head-bases : (described : List ℕ → Option PhysicalSpec) (is_join : Bool) (s : Specification) → head_faults described is_join s ≡ []
    → base_faults described (first_named (cond is_join (codes "JFILE") (codes "PFILE")) s.keywords) ≡ []
head-bases described is_join s h = (nothing-in _ (base_faults described (first_named (cond is_join (codes "JFILE") (codes "PFILE")) s.keywords)) h).1

head-keywords : (described : List ℕ → Option PhysicalSpec) (is_join : Bool) (s : Specification) → head_faults described is_join s ≡ [] → logical_keyword_faults is_join places.Record s.keywords ≡ []
head-keywords described is_join s h =
    (nothing-in _ (logical_keyword_faults is_join places.Record s.keywords) (nothing-in _ (base_faults described (first_named (cond is_join (codes "JFILE") (codes "PFILE")) s.keywords)) h).0).1

view-head : (described : List ℕ → Option PhysicalSpec) (last_line : ℕ) (is_multi : Bool) (f : FormatLines) → view_faults described last_line is_multi f ≡ [] → head_faults described false f.head ≡ []
view-head described last_line is_multi f h = (nothing-in (head_faults described false f.head) _ (nothing-in _ _ (nothing-in _ _ (nothing-in _ _ h).0).0).0).0

format-over : (described : List ℕ → Option PhysicalSpec) (last_line : ℕ) (is_multi : Bool) (f : FormatLines) → view_faults described last_line is_multi f ≡ []
    → IsComplete described f → IsOver described f
format-over described last_line is_multi f h complete =
    let found = what-is (base_name f) complete.based in
    let said : Option Keyword = first_named (codes "PFILE") f.head.keywords in
    let faults : base_faults described said ≡ [] = head-bases described false f.head (view-head described last_line is_multi f h) in
    record {
      name = found.0;
      is = found.1;
      there = named-there (λ name. IsSome (described name)) said found.0 found.1 (keyword-there described said faults);
    }

formats-over : (described : List ℕ → Option PhysicalSpec) (last_line : ℕ) (is_multi : Bool) (fs : List FormatLines) → AllByRecursion (λ f. view_faults described last_line is_multi f ≡ []) fs
    → AreComplete described fs → AllByRecursion (IsOver described) fs
formats-over described last_line is_multi [] none complete = tt
formats-over described last_line is_multi (f ∷ fs) none complete = (format-over described last_line is_multi f none.0 complete.0, formats-over described last_line is_multi fs none.1 complete.1)

views-over : (described : List ℕ → Option PhysicalSpec) (source : Source) (fs : List FormatLines) → faults_over described source false fs ≡ [] → AllByRecursion (IsOver described) fs
views-over described source fs h =
    let formats : formats_at_fault described source false fs ≡ [] = (nothing-in _ (formats_at_fault described source false fs) (nothing-in _ _ h).0).1 in
    let views = nothing-in (flat_map (view_faults described source.last_line (is_multi_format fs)) fs) (mismatch_faults (format_parts described) [] fs) formats in
    formats-over described source.last_line (is_multi_format fs) fs (flat-nothing (view_faults described source.last_line (is_multi_format fs)) fs views.0)
    (complete_file described source fs h)

-- ---- files that aren't joins

several-names : (P : List ℕ → Type 0) (views : List View) → AllByRecursion (λ (view : View). P view.base) views → AllByRecursion P (base_names (one_or_several views))
several-names P [] all = tt
several-names P (v ∷ []) all = (all.0, tt)
several-names P (v ∷ w ∷ views) all = each-map P (λ view. view.base) (v ∷ w ∷ views) all

several-mapped : (bases : Bases) (views : List View) → AllByRecursion (IsViewMapped bases) views → IsSpecMapped bases (one_or_several views)
several-mapped bases [] all = tt
several-mapped bases (v ∷ []) all = all.0
several-mapped bases (v ∷ w ∷ views) all = all

view-mapped : (described : List ℕ → Option PhysicalSpec) (bases : Bases) (ks : List Keyword) (is_multi : Bool) (positions : ℕ) (f : FormatLines) → AreBasesOf described bases → IsOver described f
    → IsViewMapped bases (view_described described ks is_multi positions f)
view-mapped described bases ks is_multi positions f are over =
    let spec = what-is (described over.name) over.there in
    let fields : base_of described f ≡ spec.0.format.fields = ap (fields_of_name described) over.is ∙ ap fields_of_base spec.1 in
    let same : base_of described f ≡ (bases (name_or_none (base_name f))).fields =
    fields ∙ sym (are over.name spec.0 spec.1) ∙ sym (ap (λ (o : Option (List ℕ)). (bases (name_or_none o)).fields) over.is) in
    subst (λ (base : List Field). AllByRecursion (IsFieldMapped base) (mapping_of (named_fields (base_of described f) (field_lines f)))) same (lines-mapped (base_of described f) (field_lines f))

-- ---- joins

-- JFILE with its arguments
record IsJoining (ks : List Keyword) : Type 0 where
  keyword : Keyword
  is : first_named (codes "JFILE") ks ≡ Some keyword
  names : are_names 2 MOST_JOINED (arguments_of keyword) ≡ true

named-so : (name other : List ℕ) (k : Keyword) → has_name name k ≡ true → has_name other k ≡ pointwise nat_eq name other
named-so name other k h = ap (λ (n : List ℕ). pointwise nat_eq n other) (same_text k.name name (sym h))

files-fit : (k : Keyword) → has_name (codes "JFILE") k ≡ true → takes_its_arguments k ≡ true → are_names 2 MOST_JOINED (arguments_of k) ≡ true
files-fit k named takes = fits (and_parts (list_all is_in_table (arguments_of k)) (fit_logical_keyword k (arguments_of k)) takes).1
  where
    fits : fit_logical_keyword k (arguments_of k) ≡ true → are_names 2 MOST_JOINED (arguments_of k) ≡ true
    fits h = subst (λ (n : List ℕ). fit_logical_keyword (record k { name = n }) (arguments_of k) ≡ true) (same_text k.name (codes "JFILE") (sym named)) h

takes-them : (b : Bool) → (true && not b) ≡ false → b ≡ true
takes-them true h = refl
takes-them false h = absurd cc

or-else : (a b : Bool) → not (a || b) ≡ false → a ≡ false → b ≡ true
or-else true b h e = absurd cc
or-else false true h e = refl
or-else false false h e = absurd cc

is-joining : (ks : List Keyword) → logical_keyword_faults true places.Record ks ≡ [] → is_join_keyword (based_on ks) ≡ true → IsJoining ks
is-joining [] none based = absurd cc
is-joining (k ∷ ks) none based =
    let known : Bool = stands_at true places.Record k in
    let more = nothing-in (unknown_faults known k ++ argument_faults known k ++ twice_faults known k ks) (logical_keyword_faults true places.Record ks) none in
    let parts = nothing-in (unknown_faults known k) (argument_faults known k) (nothing-in (unknown_faults known k ++ argument_faults known k) (twice_faults known k ks) more.0).0 in
    let stands : not known ≡ false = not-wrong (not known) _ parts.0 in
    let takes : (known && not (takes_its_arguments k)) ≡ false = not-wrong (known && not (takes_its_arguments k)) _ parts.1 in
    elim (cases_Bool (has_name (codes "JFILE") k)) [
      | inl h ↦ record {
        keyword = k;
        is = cond-true (has_name (codes "JFILE") k) (Some k) (first_named (codes "JFILE") ks) h;
        names = files-fit k h (takes-them (takes_its_arguments k) (subst (λ (b : Bool). ((b || has_name (codes "TEXT") k) && not (takes_its_arguments k)) ≡ false) h takes));
      }
      | inr h ↦
          let text : has_name (codes "TEXT") k ≡ true = or-else (has_name (codes "JFILE") k) (has_name (codes "TEXT") k) stands h in
          let other : has_name (codes "PFILE") k ≡ false = named-so (codes "TEXT") (codes "PFILE") k text in
          let skipped : (has_name (codes "PFILE") k || has_name (codes "JFILE") k) ≡ false = ap (λ (b : Bool). b || has_name (codes "JFILE") k) other ∙ h in
          let rest : is_join_keyword (based_on ks) ≡ true = ap is_join_keyword (sym (cond-false (has_name (codes "PFILE") k || has_name (codes "JFILE") k) (Some k) (based_on ks) skipped)) ∙ based in
          let found = is-joining ks more.1 rest in
          record { keyword = found.keyword; is = cond-false (has_name (codes "JFILE") k) (Some k) (first_named (codes "JFILE") ks) h ∙ found.is; names = found.names }
    ]

-- the first of some names, and each behind it
first-there : (P : List ℕ → Type 0) (a : Argument) (args : List Argument) (o : Option (List ℕ)) → is_some o ≡ true
    → AllByRecursion P (cons_option o (names_among args)) → P (first_file (cons_option o (names_among args)))
first-there P a args None some all = absurd cc
first-there P a args (Some name) some all = all.0

some-first : (P : List ℕ → Type 0) (args : List Argument) → are_names 2 MOST_JOINED args ≡ true → AllByRecursion P (names_among args) → P (first_file (names_among args))
some-first P [] names all = absurd (let parts = all-three true (nat_le 2 0) (nat_le 0 MOST_JOINED) names in let none : (nat_le 2 0) ≡ true = parts.1 in cc)
some-first P (a ∷ args) names all =
    let parts = all-three (list_all is_file_or_field (a ∷ args)) (nat_le 2 (length (a ∷ args))) (nat_le (length (a ∷ args)) MOST_JOINED) names in
    first-there P a args (argument_name a) (and_parts (is_file_or_field a) (list_all is_file_or_field args) parts.0).0 all

each-drop : (P : List ℕ → Type 0) (names : List (List ℕ)) → AllByRecursion P names → AllByRecursion P (drop 1 names)
each-drop P [] all = tt
each-drop P (name ∷ names) all = all.1

joined-once : (P : List ℕ → Type 0) (files : List (List ℕ)) (fields : List (List Field)) (file : List ℕ) (place : ℕ) (ss : List Specification) → P file
    → AllByRecursion (λ (joined : JoinedFile). P joined.file) (joined_by_first files fields file place ss)
joined-once P files fields file place [] here = tt
joined-once P files fields file place (s ∷ ss) here = (here, tt)

joined-there : (P : List ℕ → Type 0) (files : List (List ℕ)) (fields : List (List Field)) (ss : List Specification) (place : ℕ) (more : List (List ℕ)) → AllByRecursion P more
    → AllByRecursion (λ (joined : JoinedFile). P joined.file) (joined_from files fields ss place more)
joined-there P files fields ss place [] all = tt
joined-there P files fields ss place (file ∷ more) all =
    each-append (λ (joined : JoinedFile). P joined.file) (joined_by_first files fields file place (lines_to files ss place)) (joined_from files fields ss (place + 1) more)
    (joined-once P files fields file place (lines_to files ss place) all.0) (joined-there P files fields ss (place + 1) more all.1)

join-head : (described : List ℕ → Option PhysicalSpec) (last_line : ℕ) (f : FormatLines) → join_faults described last_line f ≡ [] → head_faults described true f.head ≡ []
join-head described last_line f h =
    (nothing-in (head_faults described true f.head) _ (nothing-in _ _ (nothing-in _ _ (nothing-in _ _ (nothing-in _ _ (nothing-in _ _ h).0).0).0).0).0).0

join-there : (described : List ℕ → Option PhysicalSpec) (last_line : ℕ) (ks : List Keyword) (f : FormatLines) → join_faults described last_line f ≡ []
    → is_join_keyword (based_on f.head.keywords) ≡ true → AllByRecursion (λ name. IsSome (described name)) (base_names (Join (join_described described ks f)))
join-there described last_line ks f none based =
    let P : List ℕ → Type 0 = λ name. IsSome (described name) in
    let head : head_faults described true f.head ≡ [] = join-head described last_line f none in
    let joining = is-joining f.head.keywords (head-keywords described true f.head head) based in
    let all : AllByRecursion P (files_joined f) = keyword-there described (first_named (codes "JFILE") f.head.keywords) (head-bases described true f.head head) in
    let files : files_joined f ≡ names_among (arguments_of joining.keyword) = ap keyword_names joining.is in
    let first : P (first_file (files_joined f)) =
    subst (λ (names : List (List ℕ)). P (first_file names)) (sym files) (some-first P (arguments_of joining.keyword) joining.names (subst (AllByRecursion P) files all)) in (
      first,
      each-map P (λ joined. joined.file) (joined_from (files_joined f) (fields_joined described f) (join_lines f) 1 (drop 1 (files_joined f)))
          (joined-there P (files_joined f) (fields_joined described f) (join_lines f) 1 (drop 1 (files_joined f)) (each-drop P (files_joined f) all)),
    )

-- ---- a file

-- what no fault of formats leads to, of a join and of another file
joins-there : (described : List ℕ → Option PhysicalSpec) (source : Source) (fs : List FormatLines) → faults_over described source true fs ≡ [] → is_join_file fs ≡ true
    → AllByRecursion (λ name. IsSome (described name)) (base_names (join_described_by described source.file fs))
joins-there described source [] none join = tt
joins-there described source (f ∷ fs) none join =
    let formats : formats_at_fault described source true (f ∷ fs) ≡ [] = (nothing-in _ (formats_at_fault described source true (f ∷ fs)) (nothing-in _ _ none).0).1 in
    join-there described source.last_line source.file f (nothing-in (join_faults described source.last_line f) (flat_map (join_faults described source.last_line) fs) formats).0 join

views-there : (described : List ℕ → Option PhysicalSpec) (ks : List Keyword) (is_multi : Bool) (positions : ℕ) (fs : List FormatLines) → AllByRecursion (IsOver described) fs
    → AllByRecursion (λ name. IsSome (described name)) (base_names (one_or_several (map (view_described described ks is_multi positions) fs)))
views-there described ks is_multi positions fs over =
    several-names (λ name. IsSome (described name)) (map (view_described described ks is_multi positions) fs)
    (each-map (λ (view : View). IsSome (described view.base)) (view_described described ks is_multi positions) fs
    (each-weaker (IsOver described) (λ f. IsSome (described (name_or_none (base_name f))))
    (λ f is. subst (λ (o : Option (List ℕ)). IsSome (described (name_or_none o))) (sym is.is) is.there) fs over))

views-mapped : (described : List ℕ → Option PhysicalSpec) (bases : Bases) (ks : List Keyword) (is_multi : Bool) (positions : ℕ) (fs : List FormatLines) → AreBasesOf described bases
    → AllByRecursion (IsOver described) fs → IsSpecMapped bases (one_or_several (map (view_described described ks is_multi positions) fs))
views-mapped described bases ks is_multi positions fs are over =
    several-mapped bases (map (view_described described ks is_multi positions) fs)
    (each-map (IsViewMapped bases) (view_described described ks is_multi positions) fs
    (each-weaker (IsOver described) (λ f. IsViewMapped bases (view_described described ks is_multi positions f)) (λ f is. view-mapped described bases ks is_multi positions f are is) fs over))

joins-mapped : (described : List ℕ → Option PhysicalSpec) (bases : Bases) (ks : List Keyword) (fs : List FormatLines) → IsSpecMapped bases (join_described_by described ks fs)
joins-mapped described bases ks [] = tt
joins-mapped described bases ks (f ∷ fs) = tt

-- what holds of a join and of another file holds of what is described
described-so : (P : LogicalSpec → Type 0) (described : List ℕ → Option PhysicalSpec) (source : Source) (fs : List FormatLines) → faults_over described source (is_join_file fs) fs ≡ []
    → (faults_over described source true fs ≡ [] → is_join_file fs ≡ true → P (join_described_by described source.file fs))
    → (faults_over described source false fs ≡ [] → P (one_or_several (map (view_described described source.file (is_multi_format fs) (most_parts fs)) fs)))
    → P (described_by described source fs)
described-so P described source fs none joins others =
    cond_both (is_join_file fs) (join_described_by described source.file fs) (one_or_several (map (view_described described source.file (is_multi_format fs) (most_parts fs)) fs)) P
    (λ join. joins (subst (λ (b : Bool). faults_over described source b fs ≡ []) join none) join)
    (λ other. others (subst (λ (b : Bool). faults_over described source b fs ≡ []) other none))

found-right : (spec made : LogicalSpec) (o : Option DdsFault) → unless_fault made o ≡ Ok spec → (o ≡ None) × (made ≡ spec)
found-right spec made None h = (refl, (let same : made ≡ spec = cc in same))
found-right spec made (Some fault) h = absurd cc

described-right : (P : LogicalSpec → Type 0) (described : List ℕ → Option PhysicalSpec) (source : Source) (spec : LogicalSpec) → logical_of described source ≡ Ok spec
    → ((fs : List FormatLines) → faults_over described source (is_join_file fs) fs ≡ [] → P (described_by described source fs)) → P spec
unfolding logical_of logical_specification logical_faults
described-right P described source spec h so =
    let fs : List FormatLines = formats_in source.specifications in
    let faults : List DdsFault = faults_over described source (is_join_file fs) fs in
    let right = found-right spec (described_by described source fs) (first_after None faults) h in
    subst P right.1 (so fs (nothing_noted None faults right.0))

pub described-mapped : (described : List ℕ → Option PhysicalSpec) (bases : Bases) (source : Source) (spec : LogicalSpec) → AreBasesOf described bases → logical_of described source ≡ Ok spec
    → IsSpecMapped bases spec
described-mapped described bases source spec are h =
    described-right (IsSpecMapped bases) described source spec h
    (λ fs none. described-so (IsSpecMapped bases) described source fs none (λ faults join. joins-mapped described bases source.file fs)
    (λ faults. views-mapped described bases source.file (is_multi_format fs) (most_parts fs) fs are (views-over described source fs faults)))

pub described-there : (described : List ℕ → Option PhysicalSpec) (source : Source) (spec : LogicalSpec) → logical_of described source ≡ Ok spec
    → AllByRecursion (λ name. IsSome (described name)) (base_names spec)
described-there described source spec h =
    let P : LogicalSpec → Type 0 = λ made. AllByRecursion (λ name. IsSome (described name)) (base_names made) in
    described-right P described source spec h
    (λ fs none. described-so P described source fs none (joins-there described source fs)
    (λ faults. views-there described source.file (is_multi_format fs) (most_parts fs) fs (views-over described source fs faults)))
