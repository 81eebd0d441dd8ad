-- A format without faults has all that it needs.
use Rattle.std.proofs.Common.{◌≡◌, ◌∙◌, ◌≤◌, ap, sym, subst, refl, ℕ, zero, suc, Bool, true, false, not, ◌&&◌, ◌||◌, nat_lt, nat_eq, List, [], ◌∷◌, ◌++◌, length, drop, flat_map, map, Option, Some, None, is_some, is_none, inl, inr, codes, if◌then◌else◌, arith}
use Rattle.std.specs.List.{list_any, filter_map, cons_option}
use Rattle.std.proofs.lemmas.Bool.Decides.{nat_tests}
use Rattle.std.proofs.lemmas.Bool.{cases_Bool, and_parts}
use lib.Pointwise.{pointwise}
use Rattle.std.proofs.Common.{◌+◌, ◌==◌, nat_le}
use Rattle.std.specs.Cmp.Lexicographic.{same_text}
use Rattle.std.specs.List.{list_all}
use Rattle.record_fmt.specs.declared.formats.Field.{Field}
use Rattle.record_fmt.specs.declared.formats.TheConstants.{MOST_FIELDS, MOST_BYTES}
use Rattle.record_fmt.specs.Layout.{record_length}
use Rattle.dds_physical.below.dds_source.specs.declared.faults.DdsFault.{DdsFault}
use Rattle.dds_physical.below.dds_source.specs.declared.faults.DdsCause.TheVariants.{BadName, TooLarge}
use Rattle.dds_physical.below.dds_source.specs.declared.keywords.Keyword.{Keyword}
use Rattle.dds_physical.below.dds_source.specs.declared.arguments.Argument.{Argument}
use Rattle.dds_physical.below.dds_source.specs.declared.specifications.Source.{Source}
use Rattle.dds_physical.below.dds_source.specs.declared.specifications.Specification.{Specification}
use Rattle.dds_physical.specs.Entries.{when}
use Rattle.dds_physical.specs.declared.physical_files.PhysicalSpec.{PhysicalSpec}
use Rattle.dds_physical.specs.Names.{name_of}
use Rattle.dds_physical.specs.Keywords.{has_name, first_named, arguments_of}
use Rattle.dds_physical.specs.References.{file_of, file_of_keyword}
use Rattle.dds_logical.specs.declared.keyword_places.KeywordPlace.TheVariants as places
use Rattle.dds_logical.specs.FormatLines.{FormatLines, based_on, field_lines, key_lines, selection_lines, is_multi_format}
use Rattle.dds_physical.specs.KeywordRules.{is_in_table}
use Rattle.dds_physical.specs.Places.{fault_at}
use Rattle.dds_physical.specs.WholeFile.{fault_of_file, has_key}
use Rattle.dds_physical.specs.Draft.{key_length}
use Rattle.dds_logical.specs.declared.limits.TheConstants.{MOST_KEY_BYTES}
use Rattle.dds_logical.specs.KeywordArguments.{takes_its_arguments, fit_logical_keyword, are_names, is_file_or_field}
use Rattle.dds_logical.specs.Keys.{key_lines_faults, mismatch_faults}
use Rattle.dds_logical.specs.Selections.{selection_lines_faults}
use Rattle.dds_logical.specs.KeywordRules.{file_conflicts, stands_at, unknown_faults, argument_faults, twice_faults, logical_keyword_faults}
use Rattle.dds_logical.specs.Fields.{letter_faults, field_of_line, field_as_it_is, named_fields, names_twice, too_many_faults, first_too_many, field_lines_faults, field_entry_faults, made_faults, file_number_faults}
use Rattle.dds_logical.specs.WholeFile.{head_faults, base_faults, formats_faults, format_missing_faults, lacks_format, size_faults}
use Rattle.dds_logical.specs.Logical.{base_of, find_field, fields_named, format_fields, format_parts, view_faults, faults_over, formats_at_fault}
use Rattle.dds_logical.specs.LineOrder.{order_faults}
use Rattle.dds_logical.specs.Complete.{IsComplete, AreComplete}
use Rattle.dds_logical.proofs.KeyLemmas.{record_length_by_name}

-- ---- no faults

pub nothing_in : {X : Type 0} (xs ys : List X) → xs ++ ys ≡ [] → (xs ≡ []) × (ys ≡ [])
nothing_in [] ys h = (refl, h)
nothing_in (x ∷ xs) ys h = absurd cc

pub not_wrong : (wrong : Bool) (f : DdsFault) → when wrong f ≡ [] → wrong ≡ false
not_wrong true f h = absurd cc
not_wrong false f h = refl

pub no_less : (a b : ℕ) → nat_lt a b ≡ false → b ≤ a
no_less a b h = grind (arith, nat_tests, h)

pub some_is : {X : Type 0} (o : Option X) → is_none o ≡ false → is_some o ≡ true
some_is None h = absurd cc
some_is (Some x) h = refl

pub few_left : (n : ℕ) (ss : List Specification) → first_too_many (drop n ss) ≡ [] → length ss ≤ n
few_left zero [] h = omega arith
few_left zero (s ∷ ss) h = absurd cc
few_left (suc n) [] h = omega arith
few_left (suc n) (s ∷ ss) h = let few = few_left n ss h in omega (arith, few)

neither : (a b : Bool) → (a || b) ≡ false → (a ≡ false) × (b ≡ false)
neither true b h = absurd cc
neither false b h = (refl, h)

-- ---- the fields of a format

length_cons : {X : Type 0} (o : Option X) (xs : List X) → length (cons_option o xs) ≤ length xs + 1
length_cons None xs = omega arith
length_cons (Some x) xs = omega arith

pub length_some : {X Y : Type 0} (f : X → Option Y) (xs : List X) → length (filter_map f xs) ≤ length xs
length_some f [] = omega arith
length_some f (x ∷ xs) = let here = length_cons (f x) (filter_map f xs) in let more = length_some f xs in omega (arith, here, more)

pub length_same : {X Y : Type 0} (f : X → Y) (xs : List X) → length (map f xs) ≡ length xs
length_same f [] = refl
length_same f (x ∷ xs) = ap suc (length_same f xs)

pub few_named : (base : List Field) (ss : List Specification) → length base ≤ 1000 → length ss ≤ 1000 → length (named_fields base ss) ≤ 1000
few_named base [] few lines = let same = length_same field_as_it_is base in omega (arith, same, few)
few_named base (s ∷ ss) few lines = let less = length_some (field_of_line false base) (s ∷ ss) in omega (arith, less, lines)

-- ---- the file of a format

-- PFILE takes one name
one_name : (args : List Argument) → are_names 1 1 args ≡ true → is_some (file_of args) ≡ true
one_name [] h = absurd cc
one_name (a ∷ args) h =
    let all = and_parts (list_all is_file_or_field (a ∷ args) && nat_le 1 (length (a ∷ args))) (nat_le (length (a ∷ args)) 1) h in
    let names = and_parts (list_all is_file_or_field (a ∷ args)) (nat_le 1 (length (a ∷ args))) all.0 in
    (and_parts (is_file_or_field a) (list_all is_file_or_field args) names.0).0

-- a keyword of one name has no other
named_so : (name other : List ℕ) (k : Keyword) → has_name name k ≡ true → has_name other k ≡ pointwise nat_eq name other
named_so name other k h = ap (λ (n : List ℕ). pointwise nat_eq n other) (same_text k.name name (sym h))

pfile_fits : (k : Keyword) → has_name (codes "PFILE") k ≡ true → takes_its_arguments k ≡ true → is_some (file_of (arguments_of k)) ≡ true
pfile_fits k named takes =
    one_name (arguments_of k) (fits (and_parts (list_all is_in_table (arguments_of k)) (fit_logical_keyword k (arguments_of k)) takes).1)
  where
    fits : fit_logical_keyword k (arguments_of k) ≡ true → are_names 1 1 (arguments_of k) ≡ true
    fits h = subst (λ (n : List ℕ). fit_logical_keyword (record k { name = n }) (arguments_of k) ≡ true) (same_text k.name (codes "PFILE") (sym named)) h

pub takes_them : (b : Bool) → (true && not b) ≡ false → b ≡ true
takes_them true h = refl
takes_them false h = absurd cc

-- the line of a format over a file without wrong keywords names it
pub file_named : (ks : List Keyword) → logical_keyword_faults false places.Record ks ≡ [] → is_some (based_on ks) ≡ true → is_some (file_of_keyword (first_named (codes "PFILE") ks)) ≡ true
file_named [] none based = absurd cc
file_named (k ∷ ks) none based =
    let more = nothing_in (unknown_faults (stands_at false places.Record k) k ++ argument_faults (stands_at false places.Record k) k ++ twice_faults (stands_at false places.Record k) k ks) (logical_keyword_faults false places.Record ks) none in
    let twice = nothing_in (unknown_faults (stands_at false places.Record k) k ++ argument_faults (stands_at false places.Record k) k) (twice_faults (stands_at false places.Record k) k ks) more.0 in
    let parts = nothing_in (unknown_faults (stands_at false places.Record k) k) (argument_faults (stands_at false places.Record k) k) twice.0 in
    let stands = not_wrong (not (stands_at false places.Record k)) _ parts.0 in
    let takes = not_wrong (stands_at false places.Record k && not (takes_its_arguments k)) _ parts.1 in
    elim (cases_Bool (has_name (codes "PFILE") k)) [
      | inl h ↦ rw h (pfile_fits k h (takes_them (takes_its_arguments k) (subst (λ (b : Bool). ((b || has_name (codes "TEXT") k) && not (takes_its_arguments k)) ≡ false) h takes)))
      | inr h ↦ rw h (elim (cases_Bool (has_name (codes "JFILE") k)) [
        | inl j ↦ absurd (let no : not (stands_at false places.Record k) ≡ true = ap not (ap (λ (b : Bool). b || has_name (codes "TEXT") k) h ∙ named_so (codes "JFILE") (codes "TEXT") k j) in cc)
        | inr j ↦ file_named ks more.1 (subst (λ (b : Bool). is_some (if b then Some k else based_on ks) ≡ true) (ap (λ (b : Bool). b || has_name (codes "JFILE") k) h ∙ j) based)
      ])
    ]

-- ---- a format

complete_one : (bases : List ℕ → Option PhysicalSpec) (last_line : ℕ) (is_multi : Bool) (f : FormatLines) → view_faults bases last_line is_multi f ≡ [] → is_some (based_on f.head.keywords) ≡ true → IsComplete bases f
complete_one bases last_line is_multi f none based =
    let sizes = nothing_in (head_faults bases false f.head ++ field_lines_faults (base_of bases f) (field_lines f) ++ key_lines_faults false is_multi (format_fields bases f) (key_lines f)
    ++ selection_lines_faults (find_field bases f) (selection_lines f)) (size_faults last_line (format_fields bases f) (format_parts bases f)) none in
    let selections = nothing_in (head_faults bases false f.head ++ field_lines_faults (base_of bases f) (field_lines f) ++ key_lines_faults false is_multi (format_fields bases f) (key_lines f)) (selection_lines_faults (find_field bases f) (selection_lines f)) sizes.0 in
    let keys = nothing_in (head_faults bases false f.head ++ field_lines_faults (base_of bases f) (field_lines f)) (key_lines_faults false is_multi (format_fields bases f) (key_lines f)) selections.0 in
    let fields = nothing_in (head_faults bases false f.head) (field_lines_faults (base_of bases f) (field_lines f)) keys.0 in
    let heads = nothing_in (when (is_none (name_of f.head.name)) (fault_at f.head 19 BadName) ++ logical_keyword_faults false places.Record f.head.keywords) (base_faults bases (first_named (codes "PFILE") f.head.keywords)) fields.0 in
    let names = nothing_in (when (is_none (name_of f.head.name)) (fault_at f.head 19 BadName)) (logical_keyword_faults false places.Record f.head.keywords) heads.0 in
    let lines = nothing_in (names_twice [] (field_lines f) ++ too_many_faults MOST_FIELDS (field_lines f)) (flat_map (λ s. field_entry_faults false s ++ made_faults (base_of bases f) s ++ file_number_faults s) (field_lines f)) fields.1 in
    let many = nothing_in (names_twice [] (field_lines f)) (too_many_faults MOST_FIELDS (field_lines f)) lines.0 in
    let wide = nothing_in (when (nat_lt MOST_BYTES (record_length (format_fields bases f))) (fault_of_file last_line TooLarge)) (when (nat_lt MOST_KEY_BYTES (key_length (format_parts bases f))) (fault_of_file last_line TooLarge)) sizes.1 in
    let long = no_less MOST_BYTES (record_length (format_fields bases f)) (not_wrong (nat_lt MOST_BYTES (record_length (format_fields bases f))) _ wide.0) in
    let same = record_length_by_name 0 (fields_named bases f) in
    record {
      named = some_is (name_of f.head.name) (not_wrong (is_none (name_of f.head.name)) _ names.0);
      based = file_named f.head.keywords names.1 based;
      few = few_left MOST_FIELDS (field_lines f) many.1;
      narrow = omega (arith, long, same);
    }

complete_all : (bases : List ℕ → Option PhysicalSpec) (last_line : ℕ) (is_multi : Bool) (fs : List FormatLines) → flat_map (view_faults bases last_line is_multi) fs ≡ []
    → list_any (λ f. is_none (based_on f.head.keywords)) fs ≡ false → AreComplete bases fs
complete_all bases last_line is_multi [] none based = tt
complete_all bases last_line is_multi (f ∷ fs) none based =
    let parts = nothing_in (view_faults bases last_line is_multi f) (flat_map (view_faults bases last_line is_multi) fs) none in
    let heads = neither (is_none (based_on f.head.keywords)) (list_any (λ g. is_none (based_on g.head.keywords)) fs) based in
    (complete_one bases last_line is_multi f parts.0 (some_is (based_on f.head.keywords) heads.0), complete_all bases last_line is_multi fs parts.1 heads.1)

-- ---- a file

one_has_base : (is_join : Bool) (fs : List FormatLines) (last_line : ℕ) → format_missing_faults last_line is_join fs ≡ [] → list_any (λ f. is_none (based_on f.head.keywords)) fs ≡ false
one_has_base is_join fs last_line none =
    let lacks = not_wrong (lacks_format is_join fs) _ none in
    let first = neither ((length fs == 0) || list_any (λ f. is_none (based_on f.head.keywords)) fs) (is_join && list_any (λ f. length (field_lines f) == 0) fs) lacks in
    (neither (length fs == 0) (list_any (λ f. is_none (based_on f.head.keywords)) fs) first.0).1

-- formats over one file each
pub complete_file : (bases : List ℕ → Option PhysicalSpec) (source : Source) (fs : List FormatLines) → faults_over bases source false fs ≡ [] → AreComplete bases fs
complete_file bases source fs none =
    let missing = nothing_in (logical_keyword_faults false places.File source.file ++ file_conflicts (has_key source.specifications) (is_multi_format fs) source.file ++ flat_map (letter_faults false) source.specifications
    ++ order_faults false source.specifications fs ++ formats_faults fs ++ formats_at_fault bases source false fs) (format_missing_faults source.last_line false fs) none in
    let formats = nothing_in (logical_keyword_faults false places.File source.file ++ file_conflicts (has_key source.specifications) (is_multi_format fs) source.file ++ flat_map (letter_faults false) source.specifications
    ++ order_faults false source.specifications fs ++ formats_faults fs) (formats_at_fault bases source false fs) missing.0 in
    let views = nothing_in (flat_map (view_faults bases source.last_line (is_multi_format fs)) fs) (mismatch_faults (format_parts bases) [] fs) formats.1 in
    complete_all bases source.last_line (is_multi_format fs) fs views.0 (one_has_base false fs source.last_line missing.1)
