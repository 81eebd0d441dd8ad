-- The formats that a data description describes show what their fields say, and what these are made of has a byte.
use Rattle.std.proofs.Common.{◌≡◌, ℕ, ◌+◌, ◌≤◌, nat_le, Bool, true, false, not, cond, ◌&&◌, ◌||◌, codes, Option, Some, None, is_some, IfSome, Result, Ok, Err}
use Rattle.std.proofs.Common.{List, [], ◌∷◌, ◌++◌, length, map, refl, sym, subst, arith}
use Rattle.std.specs.List.{AllByRecursion, list_all, flat_map, filter_map, cons_option}
use Rattle.std.specs.Cmp.Lexicographic.{same_text}
use Rattle.std.proofs.lemmas.Bool.{and_parts, cond_both, cond-true, leb-true, not-false}
use Rattle.std.proofs.lemmas.List.{length-map}
use Rattle.field_types.specs.declared.kinds.FieldType.{FieldType}
use Rattle.field_values.specs.FieldTypes.{width}
use Rattle.record_fmt.specs.declared.formats.Field.{Field}
use Rattle.dds_source.specs.declared.arguments.Argument.{Argument}
use Rattle.dds_source.specs.declared.faults.DdsFault.{DdsFault}
use Rattle.dds_source.specs.declared.keywords.Keyword.{Keyword}
use Rattle.dds_source.specs.declared.specifications.Source.{Source}
use Rattle.dds_source.specs.declared.specifications.Specification.{Specification}
use Rattle.dds_source.specs.Faults.{first_after}
use Rattle.logical_paths.below.dds_physical.specs.declared.physical_files.PhysicalSpec.{PhysicalSpec}
use Rattle.logical_paths.specs.Attributes.{attributes}
use Rattle.logical_paths.specs.Keywords.{has_name, first_named, is_there, arguments_of}
use Rattle.logical_paths.specs.KeywordRules.{argument_name, is_in_table}
use Rattle.logical_paths.specs.Names.{name_of, field_named}
use Rattle.logical_paths.proofs.FaultLemmas.{nothing_noted}
use Rattle.file_model.specs.declared.views.FieldSource.{FieldSource}
use Rattle.file_model.specs.declared.views.FieldSource.TheVariants.{Copied, Converted, Concatenated, Substring}
use Rattle.file_model.specs.declared.views.LogicalField.{LogicalField}
use Rattle.logical_model.below.dds_logical.specs.declared.keyword_places.KeywordPlace.TheVariants as places
use Rattle.logical_model.below.dds_logical.specs.declared.views.LogicalSpec.{LogicalSpec}
use Rattle.logical_model.below.dds_logical.specs.declared.views.View.{View}
use Rattle.logical_model.specs.Fields.{is_same_type, source_at, typed_field, field_over, field_of_line, field_as_it_is, named_fields, laid_out, mapping_of, is_read_only_mapping, says_read_only}
use Rattle.logical_model.specs.Fields.{field_entry_faults, made_faults, file_number_faults, field_lines_faults}
use Rattle.logical_model.specs.FormatLines.{FormatLines, formats_in, field_lines, key_lines, is_join_file, is_multi_format}
use Rattle.logical_model.specs.Keys.{key_lines_faults, mismatch_faults}
use Rattle.logical_model.specs.KeywordArguments.{is_file_or_field, names_among, are_names, fit_logical_keyword, takes_its_arguments}
use Rattle.logical_model.specs.KeywordRules.{stands_at, unknown_faults, argument_faults, twice_faults, logical_keyword_faults}
use Rattle.logical_model.specs.Logical.{base_of, fields_named, format_fields, format_parts, most_parts, view_described, one_or_several, view_faults, join_described_by, described_by}
use Rattle.logical_model.specs.Logical.{formats_at_fault, faults_over, unless_fault, logical_specification, logical_faults, logical_of}
use Rattle.logical_model.specs.Origins.{Origin, keyword_names, origin_names, fields_of_names, lacks_one, is_character, are_characters, lies_within, if_within, part_said, whole_field}
use Rattle.logical_model.specs.Origins.{first_copied, concatenated, part_origin, substring_of, arguments_said, made_of, origin}
use Rattle.logical_model.proofs.CompleteLemmas.{nothing_in, not_wrong}
use Rattle.view_records.specs.Through.{AreFieldsOf, IsFormatOf, HasBytes, HaveBytes, HasFormats, HasBytesIn}

-- ---- lists and options

each-map : {A B : Type 0} (P : B → Type 0) (f : A → B) (xs : List A) → AllByRecursion (λ x. P (f x)) xs → AllByRecursion P (map f xs)
each-map P f [] all = tt
each-map P f (x ∷ xs) all = (all.0, each-map P f xs all.1)

each-cons : {A : Type 0} (P : A → Type 0) (o : Option A) (xs : List A) → IfSome o P → AllByRecursion P xs → AllByRecursion P (cons_option o xs)
each-cons P None xs here all = all
each-cons P (Some x) xs here all = (here, all)

each-filter_map : {A B : Type 0} (H : A → Type 0) (P : B → Type 0) (f : A → Option B) → ((x : A) → H x → IfSome (f x) P) → (xs : List A) → AllByRecursion H xs → AllByRecursion P (filter_map f xs)
each-filter_map H P f so [] all = tt
each-filter_map H P f so (x ∷ xs) all = each-cons P (f x) (filter_map f xs) (so x all.0) (each-filter_map H P f so xs all.1)

-- a list that begins with something that is there isn't empty
some-cons : {A : Type 0} (o : Option A) (xs : List A) → is_some o ≡ true → 1 ≤ length (cons_option o xs)
some-cons None xs there = absurd cc
some-cons (Some x) xs there = omega arith

flat-nothing : {X : Type 0} (f : X → List DdsFault) (xs : List X) → flat_map f xs ≡ [] → AllByRecursion (λ x. f x ≡ []) xs
flat-nothing f [] h = tt
flat-nothing f (x ∷ xs) h = (let parts = nothing_in (f x) (flat_map f xs) h in (parts.0, flat-nothing f xs parts.1))

all-three : (a b c : Bool) → (a && b && c) ≡ true → (a ≡ true) × (b ≡ true) × (c ≡ true)
all-three true true true h = (refl, refl, refl)
all-three false b c h = absurd cc
all-three true false c h = absurd cc
all-three true true false h = absurd cc

-- ---- the fields of a format

laid-fields : (at : ℕ) (named : List _) → AreFieldsOf at (laid_out at named) (mapping_of named)
laid-fields at [] = tt
laid-fields at (n ∷ named) = (record { ty = refl; place = refl }, laid-fields (at + width n.shown.field.ty) named)

view-formatted : (described : List ℕ → Option PhysicalSpec) (ks : List Keyword) (is_multi : Bool) (positions : ℕ) (f : FormatLines) → IsFormatOf (view_described described ks is_multi positions f)
view-formatted described ks is_multi positions f = record { fields = laid-fields 0 (fields_named described f) }

views-formatted : (described : List ℕ → Option PhysicalSpec) (ks : List Keyword) (is_multi : Bool) (positions : ℕ) (fs : List FormatLines)
    → AllByRecursion IsFormatOf (map (view_described described ks is_multi positions) fs)
views-formatted described ks is_multi positions [] = tt
views-formatted described ks is_multi positions (f ∷ fs) = (view-formatted described ks is_multi positions f, views-formatted described ks is_multi positions fs)

several-formatted : (views : List View) → AllByRecursion IsFormatOf views → HasFormats (one_or_several views)
several-formatted [] all = tt
several-formatted (v ∷ []) all = all.0
several-formatted (v ∷ w ∷ views) all = all

join-formatted : (described : List ℕ → Option PhysicalSpec) (ks : List Keyword) (fs : List FormatLines) → HasFormats (join_described_by described ks fs)
join-formatted described ks [] = tt
join-formatted described ks (f ∷ fs) = tt

file-formatted : (described : List ℕ → Option PhysicalSpec) (source : Source) (fs : List FormatLines) → HasFormats (described_by described source fs)
file-formatted described source fs =
    cond_both (is_join_file fs) (join_described_by described source.file fs) (one_or_several (map (view_described described source.file (is_multi_format fs) (most_parts fs)) fs)) HasFormats
    (λ _. join-formatted described source.file fs)
    (λ _. several-formatted (map (view_described described source.file (is_multi_format fs) (most_parts fs)) fs)
    (views-formatted described source.file (is_multi_format fs) (most_parts fs) fs))

-- ---- the fields that CONCAT names

takes-them : (known takes : Bool) → not known ≡ false → (known && not takes) ≡ false → takes ≡ true
takes-them true true stands fits = refl
takes-them true false stands fits = absurd cc
takes-them false takes stands fits = absurd cc

fits-concat : (k : Keyword) → has_name (codes "CONCAT") k ≡ true → takes_its_arguments k ≡ true → are_names 1 (length (arguments_of k)) (arguments_of k) ≡ true
fits-concat k named takes = fits (and_parts (list_all is_in_table (arguments_of k)) (fit_logical_keyword k (arguments_of k)) takes).1
  where
    fits : fit_logical_keyword k (arguments_of k) ≡ true → are_names 1 (length (arguments_of k)) (arguments_of k) ≡ true
    fits h = subst (λ (n : List ℕ). fit_logical_keyword (record k { name = n }) (arguments_of k) ≡ true) (same_text k.name (codes "CONCAT") (sym named)) h

some-named : (args : List Argument) → list_all is_file_or_field args ≡ true → 1 ≤ length args → 1 ≤ length (names_among args)
some-named [] names some = absurd (let none : 1 ≤ 0 = some in omega (arith, none))
some-named (a ∷ args) names some = some-cons (argument_name a) (names_among args) (and_parts (is_file_or_field a) (list_all is_file_or_field args) names).0

-- such a keyword names a field at least
NamesSome : Keyword → Type 0
NamesSome k = 1 ≤ length (names_among (arguments_of k))

concat-names : (k : Keyword) → has_name (codes "CONCAT") k ≡ true → takes_its_arguments k ≡ true → NamesSome k
unfolding NamesSome
concat-names k named takes =
    let args : List Argument = arguments_of k in
    let parts = all-three (list_all is_file_or_field args) (nat_le 1 (length args)) (nat_le (length args) (length args)) (fits-concat k named takes) in
    some-named args parts.0 (leb-true 1 (length args) parts.1)

keyword-takes : (k : Keyword) (ks : List Keyword) → logical_keyword_faults false places.Field (k ∷ ks) ≡ [] → (takes_its_arguments k ≡ true) × (logical_keyword_faults false places.Field ks ≡ [])
keyword-takes k ks none =
    let known : Bool = stands_at false places.Field k in
    let more = nothing_in (unknown_faults known k ++ argument_faults known k ++ twice_faults known k ks) (logical_keyword_faults false places.Field ks) none in
    let parts = nothing_in (unknown_faults known k) (argument_faults known k) (nothing_in (unknown_faults known k ++ argument_faults known k) (twice_faults known k ks) more.0).0 in
    let stands : not known ≡ false = not_wrong (not known) _ parts.0 in
    let takes : (known && not (takes_its_arguments k)) ≡ false = not_wrong (known && not (takes_its_arguments k)) _ parts.1 in
    (takes-them known (takes_its_arguments k) stands takes, more.1)

concat-said : (ks : List Keyword) → logical_keyword_faults false places.Field ks ≡ [] → IfSome (first_named (codes "CONCAT") ks) NamesSome
concat-said [] none = tt
concat-said (k ∷ ks) none =
    let right = keyword-takes k ks none in
    cond_both (has_name (codes "CONCAT") k) (Some k) (first_named (codes "CONCAT") ks) (λ (o : Option Keyword). IfSome o NamesSome)
    (λ named. concat-names k named right.0) (λ _. concat-said ks right.1)

said-some : (o : Option Keyword) → is_some o ≡ true → IfSome o NamesSome → 1 ≤ length (keyword_names o)
unfolding NamesSome
said-some None there said = absurd cc
said-some (Some k) there said = said

found-some : (base : List Field) (names : List (List ℕ)) → lacks_one base names ≡ false → 1 ≤ length names → 1 ≤ length (fields_of_names base names)
found-some base [] found some = absurd (let none : 1 ≤ 0 = some in omega (arith, none))
found-some base (name ∷ names) found some =
    let all : list_all (λ name. is_some (field_named name base)) (name ∷ names) ≡ true = not-false (list_all (λ name. is_some (field_named name base)) (name ∷ names)) found in
    some-cons (field_named name base) (fields_of_names base names) (and_parts (is_some (field_named name base)) (list_all (λ name. is_some (field_named name base)) names) all).0

-- ---- what a field is made of

abbrev OriginHasBytes : Origin → Type 0
OriginHasBytes o = HasBytes o.source

concat-bytes : (fields : List Field) → 1 ≤ length fields → IfSome (concatenated fields) OriginHasBytes
concat-bytes fields some =
    let same : length (map whole_field fields) ≡ length fields = length-map fields whole_field in
    cond_both (are_characters fields) _ None (λ (o : Option Origin). IfSome o OriginHasBytes) (λ _. (let long : 1 ≤ length (map whole_field fields) = omega (arith, some, same) in long)) (λ _. tt)

within-bytes : (n : ℕ) (o : Option _) → IfSome (if_within n o) (λ p. 1 ≤ p.size)
within-bytes n None = tt
within-bytes n (Some p) =
    cond_both (lies_within n p) (Some p) None (λ o. IfSome o (λ q. 1 ≤ q.size))
    (λ lies. leb-true 1 p.size (all-three (nat_le 1 p.start) (nat_le 1 p.size) (nat_le (p.start + p.size) (n + 1)) lies).1) (λ _. tt)

part-bytes : (f : Field) (o : Option _) (made : Option Origin) → part_origin f o ≡ made → IfSome o (λ p. 1 ≤ p.size) → IfSome made OriginHasBytes
part-bytes f None made is some = subst (λ (m : Option Origin). IfSome m OriginHasBytes) is tt
part-bytes f (Some p) made is some = subst (λ (m : Option Origin). IfSome m OriginHasBytes) is some

substring-bytes : (args : List Argument) (fields : List Field) → IfSome (substring_of args fields) OriginHasBytes
substring-bytes args [] = tt
substring-bytes args (f ∷ fields) =
    cond_both (is_character f.ty.kind) (part_origin f (if_within f.ty.length (part_said f.ty.length args))) None (λ (o : Option Origin). IfSome o OriginHasBytes)
    (λ _. part-bytes f (if_within f.ty.length (part_said f.ty.length args)) _ refl (within-bytes f.ty.length (part_said f.ty.length args))) (λ _. tt)

copied-bytes : (fields : List Field) → IfSome (first_copied fields) OriginHasBytes
copied-bytes [] = tt
copied-bytes (f ∷ fields) = tt

names-some : (s : Specification) → is_there (codes "CONCAT") s.keywords ≡ true → IfSome (first_named (codes "CONCAT") s.keywords) NamesSome → 1 ≤ length (origin_names s)
names-some s there said =
    let same : origin_names s ≡ keyword_names (first_named (codes "CONCAT") s.keywords) = cond-true (is_there (codes "CONCAT") s.keywords) _ _ there in
    subst (λ (names : List (List ℕ)). 1 ≤ length names) (sym same) (said-some (first_named (codes "CONCAT") s.keywords) there said)

origin-bytes : (base : List Field) (s : Specification) → IfSome (first_named (codes "CONCAT") s.keywords) NamesSome → IfSome (origin base s) OriginHasBytes
origin-bytes base s said =
    let names : List (List ℕ) = origin_names s in
    let fields : List Field = fields_of_names base names in
    let args : List Argument = arguments_said (first_named (codes "SST") s.keywords) in
    cond_both (lacks_one base names) None (made_of s fields) (λ (o : Option Origin). IfSome o OriginHasBytes) (λ _. tt)
    (λ found. cond_both (is_there (codes "CONCAT") s.keywords) (concatenated fields) (cond (is_there (codes "SST") s.keywords) (substring_of args fields) (first_copied fields))
    (λ (o : Option Origin). IfSome o OriginHasBytes) (λ there. concat-bytes fields (found-some base names found (names-some s there said)))
    (λ _. cond_both (is_there (codes "SST") s.keywords) (substring_of args fields) (first_copied fields) (λ (o : Option Origin). IfSome o OriginHasBytes)
    (λ _. substring-bytes args fields) (λ _. copied-bytes fields)))

-- ---- the fields of lines

source-bytes : (t : FieldType) (o : Origin) (source : FieldSource) → HasBytes source → HasBytes (source_at t o source)
source-bytes t o (Copied offset) some = cond_both (is_same_type t o.own_type) (Copied offset) (Converted o.own_type offset) HasBytes (λ _. tt) (λ _. tt)
source-bytes t o (Converted from offset) some = tt
source-bytes t o (Concatenated pieces) some = some
source-bytes t o (Substring piece) some = some

typed-bytes : (s : Specification) (o : Origin) (name : Option (List ℕ)) (typed : Result FieldType DdsFault) (read_only : Bool) → OriginHasBytes o
    → IfSome (typed_field s o name typed read_only) (λ f. HasBytes f.shown.field.source)
typed-bytes s o None typed read_only some = tt
typed-bytes s o (Some name) (Err fault) read_only some = tt
typed-bytes s o (Some name) (Ok t) read_only some = source-bytes t o o.source some

over-bytes : (s : Specification) (o : Option Origin) → IfSome o OriginHasBytes → IfSome (field_over false s o) (λ f. HasBytes f.shown.field.source)
over-bytes s None some = tt
over-bytes s (Some o) some = typed-bytes s o (name_of s.name) (attributes s (Some o.own_type)) (is_read_only_mapping false s || says_read_only s.columns.usage) some

abbrev HasNoFaults : Specification → Type 0
HasNoFaults s = logical_keyword_faults false places.Field s.keywords ≡ []

always-copied : (base : List Field) → AllByRecursion (λ f. HasBytes (field_as_it_is f).shown.field.source) base
always-copied [] = tt
always-copied (f ∷ base) = (tt, always-copied base)

named-bytes : (base : List Field) (ss : List Specification) → AllByRecursion HasNoFaults ss → AllByRecursion (λ f. HasBytes f.shown.field.source) (named_fields base ss)
named-bytes base [] none = each-map (λ f. HasBytes f.shown.field.source) field_as_it_is base (always-copied base)
named-bytes base (s ∷ ss) none =
    each-filter_map HasNoFaults (λ f. HasBytes f.shown.field.source) (field_of_line false base)
    (λ line right. over-bytes line (origin base line) (origin-bytes base line (concat-said line.keywords right))) (s ∷ ss) none

lines-bytes : (base : List Field) (ss : List Specification) → AllByRecursion HasNoFaults ss → HaveBytes (mapping_of (named_fields base ss))
lines-bytes base ss none = each-map (λ (f : LogicalField). HasBytes f.field.source) (λ f. f.shown) (named_fields base ss) (named-bytes base ss none)

-- ---- files without faults

entries-right : (base : List Field) (ss : List Specification) → AllByRecursion (λ s. field_entry_faults false s ++ made_faults base s ++ file_number_faults s ≡ []) ss → AllByRecursion HasNoFaults ss
entries-right base [] none = tt
entries-right base (s ∷ ss) none =
    let entry : field_entry_faults false s ≡ [] = (nothing_in (field_entry_faults false s) (made_faults base s) (nothing_in _ (file_number_faults s) none.0).0).0 in
    ((nothing_in _ (logical_keyword_faults false places.Field s.keywords) entry).1, entries-right base ss none.1)

view-bytes : (described : List ℕ → Option PhysicalSpec) (last_line : ℕ) (ks : List Keyword) (is_multi : Bool) (positions : ℕ) (f : FormatLines) → view_faults described last_line is_multi f ≡ []
    → HaveBytes (view_described described ks is_multi positions f).mapping
view-bytes described last_line ks is_multi positions f none =
    let base : List Field = base_of described f in
    let keys = nothing_in _ (key_lines_faults false is_multi (format_fields described f) (key_lines f)) (nothing_in _ _ (nothing_in _ _ none).0).0 in
    let fields : field_lines_faults base (field_lines f) ≡ [] = (nothing_in _ (field_lines_faults base (field_lines f)) keys.0).1 in
    lines-bytes base (field_lines f)
    (entries-right base (field_lines f) (flat-nothing (λ s. field_entry_faults false s ++ made_faults base s ++ file_number_faults s) (field_lines f)
    (nothing_in _ (flat_map (λ s. field_entry_faults false s ++ made_faults base s ++ file_number_faults s) (field_lines f)) fields).1))

views-bytes : (described : List ℕ → Option PhysicalSpec) (last_line : ℕ) (ks : List Keyword) (is_multi : Bool) (positions : ℕ) (fs : List FormatLines)
    → AllByRecursion (λ f. view_faults described last_line is_multi f ≡ []) fs → AllByRecursion (λ (view : View). HaveBytes view.mapping) (map (view_described described ks is_multi positions) fs)
views-bytes described last_line ks is_multi positions [] none = tt
views-bytes described last_line ks is_multi positions (f ∷ fs) none =
    (view-bytes described last_line ks is_multi positions f none.0, views-bytes described last_line ks is_multi positions fs none.1)

several-bytes : (views : List View) → AllByRecursion (λ (view : View). HaveBytes view.mapping) views → HasBytesIn (one_or_several views)
several-bytes [] all = tt
several-bytes (v ∷ []) all = all.0
several-bytes (v ∷ w ∷ views) all = all

join-bytes : (described : List ℕ → Option PhysicalSpec) (ks : List Keyword) (fs : List FormatLines) → HasBytesIn (join_described_by described ks fs)
join-bytes described ks [] = tt
join-bytes described ks (f ∷ fs) = tt

all-bytes : (described : List ℕ → Option PhysicalSpec) (source : Source) (fs : List FormatLines) → faults_over described source false fs ≡ []
    → HasBytesIn (one_or_several (map (view_described described source.file (is_multi_format fs) (most_parts fs)) fs))
all-bytes described source fs none =
    let is_multi : Bool = is_multi_format fs in
    let formats : formats_at_fault described source false fs ≡ [] = (nothing_in _ (formats_at_fault described source false fs) (nothing_in _ _ none).0).1 in
    let views = nothing_in (flat_map (view_faults described source.last_line is_multi) fs) (mismatch_faults (format_parts described) [] fs) formats in
    several-bytes (map (view_described described source.file is_multi (most_parts fs)) fs)
    (views-bytes described source.last_line source.file is_multi (most_parts fs) fs (flat-nothing (view_faults described source.last_line is_multi) fs views.0))

file-bytes : (described : List ℕ → Option PhysicalSpec) (source : Source) (fs : List FormatLines) → faults_over described source (is_join_file fs) fs ≡ []
    → HasBytesIn (described_by described source fs)
file-bytes described source fs none =
    cond_both (is_join_file fs) (join_described_by described source.file fs) (one_or_several (map (view_described described source.file (is_multi_format fs) (most_parts fs)) fs)) HasBytesIn
    (λ _. join-bytes described source.file fs)
    (λ other. all-bytes described source fs (subst (λ (b : Bool). faults_over described source b fs ≡ []) other none))

-- ---- what is described

found-right : (spec made : LogicalSpec) (o : Option DdsFault) → unless_fault made o ≡ Ok spec → (o ≡ None) × (made ≡ spec)
found-right spec made None h = (refl, (let same : made ≡ spec = cc in same))
found-right spec made (Some fault) h = absurd cc

described-right : (P : LogicalSpec → Type 0) (described : List ℕ → Option PhysicalSpec) (source : Source) (spec : LogicalSpec) → logical_of described source ≡ Ok spec
    → ((fs : List FormatLines) → faults_over described source (is_join_file fs) fs ≡ [] → P (described_by described source fs)) → P spec
unfolding logical_of logical_specification logical_faults
described-right P described source spec h so =
    let fs : List FormatLines = formats_in source.specifications in
    let faults : List DdsFault = faults_over described source (is_join_file fs) fs in
    let right = found-right spec (described_by described source fs) (first_after None faults) h in
    subst P right.1 (so fs (nothing_noted None faults right.0))

pub described-formatted : (described : List ℕ → Option PhysicalSpec) (source : Source) (spec : LogicalSpec) → logical_of described source ≡ Ok spec → HasFormats spec
described-formatted described source spec h = described-right HasFormats described source spec h (λ fs none. file-formatted described source fs)

pub described-bytes : (described : List ℕ → Option PhysicalSpec) (source : Source) (spec : LogicalSpec) → logical_of described source ≡ Ok spec → HasBytesIn spec
described-bytes described source spec h = described-right HasBytesIn described source spec h (file-bytes described source)
