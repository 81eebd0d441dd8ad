-- A join format without faults has all that it needs, and so has each file.
use Rattle.std.proofs.Common.{◌≡◌, ◌∙◌, ◌≤◌, ◌<◌, ap, sym, subst, refl, ℕ, suc, Bool, true, false, not, ◌&&◌, ◌||◌, nat_lt, nat_le, List, [], ◌∷◌, ◌++◌, length, flat_map, Option, Some, None, is_some, is_none, inl, inr, codes, if◌then◌else◌, arith}
use Rattle.std.specs.List.{cons_option, list_all}
use Rattle.std.specs.Cmp.Lexicographic.{same_text}
use Rattle.std.proofs.lemmas.Bool.Decides.{nat_tests}
use Rattle.std.proofs.lemmas.Bool.{cases_Bool, and_parts}
use Rattle.record_fmt.specs.declared.formats.TheConstants.{MOST_FIELDS, MOST_BYTES}
use Rattle.record_fmt.specs.Layout.{record_length}
use Rattle.dds_physical.below.dds_source.specs.declared.faults.DdsFault.{DdsFault}
use Rattle.dds_physical.below.dds_source.specs.declared.faults.DdsCause.TheVariants.{BadName, TooLarge}
use Rattle.dds_physical.below.dds_source.specs.declared.keywords.Keyword.{Keyword}
use Rattle.dds_physical.below.dds_source.specs.declared.arguments.Argument.{Argument}
use Rattle.dds_physical.below.dds_source.specs.declared.specifications.Source.{Source}
use Rattle.dds_physical.specs.Entries.{when}
use Rattle.dds_physical.specs.Faults.{first_after}
use Rattle.dds_physical.specs.declared.physical_files.PhysicalSpec.{PhysicalSpec}
use Rattle.dds_physical.specs.Names.{name_of}
use Rattle.dds_physical.specs.Keywords.{has_name, first_named, arguments_of}
use Rattle.dds_physical.specs.KeywordRules.{argument_name, is_in_table}
use Rattle.dds_physical.specs.Places.{fault_at}
use Rattle.dds_physical.specs.WholeFile.{fault_of_file, has_key}
use Rattle.dds_physical.specs.Draft.{key_length}
use Rattle.dds_physical.proofs.FaultLemmas.{nothing_noted}
use Rattle.dds_logical.specs.declared.keyword_places.KeywordPlace.TheVariants as places
use Rattle.dds_logical.specs.declared.limits.TheConstants.{MOST_JOINED, MOST_KEY_BYTES}
use Rattle.dds_logical.specs.FormatLines.{FormatLines, based_on, field_lines, is_join_file, is_join_keyword, is_multi_format, join_lines, key_lines}
use Rattle.dds_logical.specs.KeywordArguments.{are_names, fit_logical_keyword, is_file_or_field, names_among, takes_its_arguments}
use Rattle.dds_logical.specs.KeywordRules.{argument_faults, file_conflicts, logical_keyword_faults, stands_at, twice_faults, unknown_faults}
use Rattle.dds_logical.specs.LineOrder.{order_faults}
use Rattle.dds_logical.specs.Origins.{keyword_names}
use Rattle.dds_logical.specs.Fields.{letter_faults, names_twice, too_many_faults}
use Rattle.dds_logical.specs.Keys.{key_lines_faults}
use Rattle.dds_logical.specs.WholeFile.{base_faults, format_missing_faults, formats_faults, head_faults, size_faults}
use Rattle.dds_logical.specs.Logical.{faults_over, formats_at_fault}
use Rattle.dds_logical.specs.JoinLines.{join_line_faults, link_faults}
use Rattle.dds_logical.specs.JoinFields.{join_field_faults, join_fields_faults, primary_key_faults}
use Rattle.dds_logical.specs.JoinViews.{fields_joined, fields_placed, files_joined, join_faults, join_format_fields, join_parts}
use Rattle.dds_logical.specs.JoinSteps.{named_of_placed}
use Rattle.dds_logical.specs.JoinWhole.{IsFirstComplete, IsJoinComplete}
use Rattle.dds_logical.specs.Complete.{CompleteUnless, IsFileComplete}
use Rattle.dds_logical.proofs.KeyLemmas.{record_length_by_name}
use Rattle.dds_logical.proofs.CompleteLemmas.{complete_file, few_left, no_less, not_wrong, nothing_in, some_is, takes_them}

-- ---- the files of a join

abbrev IsFew : List (List ℕ) → Type 0
IsFew ns = (0 < length ns) × (length ns ≤ MOST_JOINED)

-- arguments that are names are as many names
all_named : (args : List Argument) → list_all is_file_or_field args ≡ true → length (names_among args) ≡ length args
all_named [] h = refl
all_named (a ∷ args) h =
    let parts = and_parts (is_file_or_field a) (list_all is_file_or_field args) h in
    one (argument_name a) (names_among args) parts.0 ∙ ap suc (all_named args parts.1)
  where
    one : (o : Option (List ℕ)) (ns : List (List ℕ)) → is_some o ≡ true → length (cons_option o ns) ≡ suc (length ns)
    one None ns h = absurd cc
    one (Some n) ns h = refl

two_named : (args : List Argument) → are_names 2 MOST_JOINED args ≡ true → IsFew (names_among args)
two_named args h =
    let most = and_parts (list_all is_file_or_field args && nat_le 2 (length args)) (nat_le (length args) MOST_JOINED) h in
    let names = and_parts (list_all is_file_or_field args) (nat_le 2 (length args)) most.0 in
    let same = all_named args names.0 in
    let some : 0 < length args = few_are (length args) names.1 in
    let few : length args ≤ MOST_JOINED = most_are (length args) MOST_JOINED most.1 in
    (omega (arith, same, some), omega (arith, same, few))
  where
    few_are : (n : ℕ) → nat_le 2 n ≡ true → 0 < n
    few_are n h = grind (arith, nat_tests, h)

    most_are : (n m : ℕ) → nat_le n m ≡ true → n ≤ m
    most_are n m h = grind (arith, nat_tests, h)

jfile_fits : (k : Keyword) → has_name (codes "JFILE") k ≡ true → takes_its_arguments k ≡ true → IsFew (names_among (arguments_of k))
jfile_fits k named takes =
    two_named (arguments_of k) (fits (and_parts (list_all is_in_table (arguments_of k)) (fit_logical_keyword k (arguments_of k)) takes).1)
  where
    fits : fit_logical_keyword k (arguments_of k) ≡ true → are_names 2 MOST_JOINED (arguments_of k) ≡ true
    fits h = subst (λ (n : List ℕ). fit_logical_keyword (record k { name = n }) (arguments_of k) ≡ true) (same_text k.name (codes "JFILE") (sym named)) h

-- the line of a join format without wrong keywords names its files
files_fit : (ks : List Keyword) → logical_keyword_faults true places.Record ks ≡ [] → is_join_keyword (based_on ks) ≡ true → IsFew (keyword_names (first_named (codes "JFILE") ks))
files_fit [] none based = absurd cc
files_fit (k ∷ ks) none based =
    let more = nothing_in (unknown_faults (stands_at true places.Record k) k ++ argument_faults (stands_at true places.Record k) k ++ twice_faults (stands_at true places.Record k) k ks)
    (logical_keyword_faults true places.Record ks) none in
    let twice = nothing_in (unknown_faults (stands_at true places.Record k) k ++ argument_faults (stands_at true places.Record k) k) (twice_faults (stands_at true places.Record k) k ks) more.0 in
    let parts = nothing_in (unknown_faults (stands_at true places.Record k) k) (argument_faults (stands_at true places.Record k) k) twice.0 in
    let takes = not_wrong (stands_at true places.Record k && not (takes_its_arguments k)) _ parts.1 in
    elim (cases_Bool (has_name (codes "JFILE") k)) [
      | inl h ↦ rw h (jfile_fits k h (takes_them (takes_its_arguments k) (subst (λ (b : Bool). ((b || has_name (codes "TEXT") k) && not (takes_its_arguments k)) ≡ false) h takes)))
      | inr h ↦ rw h (files_fit ks more.1 (behind (has_name (codes "PFILE") k)
          (subst (λ (b : Bool). is_join_keyword (if has_name (codes "PFILE") k || b then Some k else based_on ks) ≡ true) h based) h))
    ]
  where
    behind : (b : Bool) → is_join_keyword (if b || false then Some k else based_on ks) ≡ true → has_name (codes "JFILE") k ≡ false → is_join_keyword (based_on ks) ≡ true
    behind true based h = absurd (let e : true ≡ false = sym based ∙ h in cc)
    behind false based h = based

-- ---- a join format

complete_join : (bases : List ℕ → Option PhysicalSpec) (last_line : ℕ) (f : FormatLines) → join_faults bases last_line f ≡ [] → is_join_keyword (based_on f.head.keywords) ≡ true
    → IsJoinComplete bases f
complete_join bases last_line f none based =
    let head = head_faults bases true f.head in
    let links = link_faults (files_joined f) (join_lines f) (first_named (codes "JFILE") f.head.keywords) in
    let lines = flat_map (join_line_faults (files_joined f) (fields_joined bases f)) (join_lines f) in
    let fields = join_fields_faults (files_joined f) (fields_joined bases f) (field_lines f) in
    let keys = key_lines_faults true false (join_format_fields bases f) (key_lines f) in
    let primary = flat_map (primary_key_faults (fields_placed bases f)) (key_lines f) in
    let sizes = size_faults last_line (join_format_fields bases f) (join_parts bases f) in
    let no_sizes = nothing_in (head ++ links ++ lines ++ fields ++ keys ++ primary) sizes none in
    let no_primary = nothing_in (head ++ links ++ lines ++ fields ++ keys) primary no_sizes.0 in
    let no_keys = nothing_in (head ++ links ++ lines ++ fields) keys no_primary.0 in
    let no_fields = nothing_in (head ++ links ++ lines) fields no_keys.0 in
    let no_lines = nothing_in (head ++ links) lines no_fields.0 in
    let no_links = nothing_in head links no_lines.0 in
    let heads = nothing_in (when (is_none (name_of f.head.name)) (fault_at f.head 19 BadName) ++ logical_keyword_faults true places.Record f.head.keywords)
    (base_faults bases (first_named (codes "JFILE") f.head.keywords)) no_links.0 in
    let names = nothing_in (when (is_none (name_of f.head.name)) (fault_at f.head 19 BadName)) (logical_keyword_faults true places.Record f.head.keywords) heads.0 in
    let each = nothing_in (names_twice [] (field_lines f) ++ too_many_faults MOST_FIELDS (field_lines f))
    (flat_map (join_field_faults (files_joined f) (fields_joined bases f)) (field_lines f)) no_fields.1 in
    let many = nothing_in (names_twice [] (field_lines f)) (too_many_faults MOST_FIELDS (field_lines f)) each.0 in
    let wide = nothing_in (when (nat_lt MOST_BYTES (record_length (join_format_fields bases f))) (fault_of_file last_line TooLarge))
    (when (nat_lt MOST_KEY_BYTES (key_length (join_parts bases f))) (fault_of_file last_line TooLarge)) no_sizes.1 in
    let long = no_less MOST_BYTES (record_length (join_format_fields bases f)) (not_wrong (nat_lt MOST_BYTES (record_length (join_format_fields bases f))) _ wide.0) in
    let same = record_length_by_name 0 (named_of_placed (fields_placed bases f)) in
    let files = files_fit f.head.keywords names.1 based in
    record {
      named = some_is (name_of f.head.name) (not_wrong (is_none (name_of f.head.name)) _ names.0);
      some = files.0;
      joined = files.1;
      few = few_left MOST_FIELDS (field_lines f) many.1;
      narrow = omega (arith, long, same);
    }

-- ---- a file

complete_first : (bases : List ℕ → Option PhysicalSpec) (source : Source) (fs : List FormatLines) → faults_over bases source true fs ≡ [] → is_join_file fs ≡ true → IsFirstComplete bases fs
complete_first bases source [] none is = tt
complete_first bases source (f ∷ fs) none is =
    let before = logical_keyword_faults true places.File source.file ++ file_conflicts (has_key source.specifications) (is_multi_format (f ∷ fs)) source.file
    ++ flat_map (letter_faults true) source.specifications
    ++ order_faults true source.specifications (f ∷ fs) ++ formats_faults (f ∷ fs) in
    let missing = nothing_in (before ++ formats_at_fault bases source true (f ∷ fs)) (format_missing_faults source.last_line true (f ∷ fs)) none in
    let formats = nothing_in before (formats_at_fault bases source true (f ∷ fs)) missing.0 in
    let first = nothing_in (join_faults bases source.last_line f) (flat_map (join_faults bases source.last_line) fs) formats.1 in
    complete_join bases source.last_line f first.0 is

-- where no fault was found, the formats are complete
pub complete_unless : (bases : List ℕ → Option PhysicalSpec) (source : Source) (fs : List FormatLines) (fault : Option DdsFault)
    → fault ≡ first_after None (faults_over bases source (is_join_file fs) fs) → CompleteUnless bases fs fault
complete_unless bases source fs None found = of_kind (is_join_file fs) refl (nothing_noted None (faults_over bases source (is_join_file fs) fs) (sym found))
  where
    of_kind : (b : Bool) → is_join_file fs ≡ b → faults_over bases source b fs ≡ [] → IsFileComplete bases b fs
    of_kind true is none = complete_first bases source fs none is
    of_kind false is none = complete_file bases source fs none
complete_unless bases source fs (Some fault) found = tt
