-- The J lines of a join, by the names that they give.
use Rattle.std.proofs.Common.{◌≡◌, ◌∙◌, ◌≤◌, ◌<◌, ◌+◌, ◌==◌, ◌||◌, ap, sym, refl, subst, ℕ, suc, Bool, true, false, nat_eq, nat_lt, inl, inr, List, [], ◌∷◌, ◌++◌, filter, map, length, Option, Some, None, slice_get, unwrap_or, if◌then◌else◌, codes, arith}
use Rattle.std.specs.List.{cons_option, list_any}
use Rattle.std.specs.Option.{option_map}
use Rattle.std.proofs.lemmas.Bool.{cases_Bool, ne_eqb}
use Rattle.std.proofs.lemmas.List.{append_assoc}
use Rattle.std.proofs.lemmas.Option.{slice_get-map}
use lib.Pointwise.{pointwise}
use Rattle.record_fmt.specs.declared.formats.Field.{Field}
use Rattle.dds_physical.below.dds_source.specs.declared.keywords.Keyword.{Keyword}
use Rattle.dds_physical.below.dds_source.specs.declared.specifications.Specification.{Specification}
use Rattle.dds_physical.specs.declared.physical_files.PhysicalSpec.{PhysicalSpec}
use Rattle.dds_physical.specs.Keywords.{first_named, arguments_of}
use Rattle.dds_logical.specs.declared.format_lines.LineKind.TheVariants as line_kinds
use Rattle.dds_logical.specs.declared.given_names.GivenNames.{GivenNames}
use Rattle.dds_logical.specs.declared.given_names.GivenNames.TheVariants as given
use Rattle.dds_logical.specs.declared.join_views.JoinedFile.{JoinedFile}
use Rattle.dds_logical.specs.Bases.{fields_of_file, fields_of_name}
use Rattle.dds_logical.specs.KeywordArguments.{names_among}
use Rattle.dds_logical.specs.Keys.{field_of_name}
use Rattle.dds_logical.specs.Judged.{is_of, lines_of, first_line}
use Rattle.dds_logical.specs.JoinLines.{fields_at, is_link_wrong, joined_by_first, joined_from, leads_to, lines_to, link_between, link_of, link_of_names, link_said, pair_of_names, place_from, place_or_first, sequence_by, sequence_of_name}
use Rattle.dds_logical.specs.JoinSteps.{are_two, given_after, joined_if, link_of_given, links_wrong, pair_of_given, reaches, with_given}

-- ---- names among arguments

pub given_more : (g : GivenNames) (m : Option (List ℕ)) (ns : List (List ℕ)) → given_after (with_given g m) ns ≡ given_after g (cons_option m ns)
given_more g None ns = refl
given_more g (Some n) ns = refl

-- two are given, and more change nothing
more_stay : (a b : List ℕ) (ns : List (List ℕ)) → given_after (given.More a b) ns ≡ given.More a b
more_stay a b [] = refl
more_stay a b (n ∷ ns) = more_stay a b ns

pub two_are : (ns : List (List ℕ)) → are_two (given_after given.Nothing ns) ≡ (length ns == 2)
two_are [] = refl
two_are (a ∷ []) = refl
two_are (a ∷ b ∷ []) = refl
two_are (a ∷ b ∷ c ∷ ns) = ap are_two (more_stay a b ns) ∙ sym (ne_eqb (suc (suc (suc (length ns)))) 2 (λ e. absurd (omega (arith, e))))

pub link_given : (files ns : List (List ℕ)) → link_of_given files (given_after given.Nothing ns) ≡ link_of_names files ns
link_given files [] = refl
link_given files (a ∷ []) = refl
link_given files (a ∷ b ∷ []) = refl
link_given files (a ∷ b ∷ c ∷ ns) = ap (link_of_given files) (more_stay a b ns)

pub pair_given : (from to : List Field) (ns : List (List ℕ)) → pair_of_given from to (given_after given.Nothing ns) ≡ pair_of_names from to ns
pair_given from to [] = refl
pair_given from to (a ∷ []) = refl
pair_given from to (a ∷ b ∷ []) = refl
pair_given from to (a ∷ b ∷ c ∷ ns) = ap (pair_of_given from to) (more_stay a b ns)

-- ---- lines

pub reaching_are : (files : List (List ℕ)) (place : ℕ) (ss : List Specification) → filter (λ s. reaches files place s) ss ≡ lines_to files (lines_of line_kinds.Join ss) place
unfolding reaches
reaching_are files place [] = refl
reaching_are files place (s ∷ ss) = elim (cases_Bool (is_of line_kinds.Join s.kind)) [
  | inl h ↦ rw h (ap (λ (ts : List Specification). if leads_to place (link_of files s) then s ∷ ts else ts) (reaching_are files place ss))
  | inr h ↦ rw h (reaching_are files place ss)
]

pub wrong_are : (files : List (List ℕ)) (ss : List Specification)
    → list_any (λ s. links_wrong files s) ss ≡ list_any (λ s. is_link_wrong files (first_named (codes "JOIN") s.keywords)) (lines_of line_kinds.Join ss)
unfolding links_wrong
wrong_are files [] = refl
wrong_are files (s ∷ ss) = elim (cases_Bool (is_of line_kinds.Join s.kind)) [
  | inl h ↦ rw h (ap (λ (b : Bool). is_link_wrong files (first_named (codes "JOIN") s.keywords) || b) (wrong_are files ss))
  | inr h ↦ rw h (wrong_are files ss)
]

pub first_joined : (files : List (List ℕ)) (fields : List (List Field)) (file : List ℕ) (place : ℕ) (ss : List Specification)
    → joined_if files fields file place (first_line ss) ≡ joined_by_first files fields file place ss
first_joined files fields file place [] = refl
first_joined files fields file place (s ∷ ss) = refl

-- one secondary file more
pub joined-step : (files : List (List ℕ)) (fields : List (List Field)) (ss : List Specification) (place : ℕ) (file : List ℕ) (more : List (List ℕ)) (old new total : List JoinedFile)
    (line : Option Specification)
    → line ≡ first_line (lines_to files ss place) → new ≡ old ++ joined_if files fields file place line → old ++ joined_from files fields ss place (file ∷ more) ≡ total
    → new ++ joined_from files fields ss (place + 1) more ≡ total
joined-step files fields ss place file more old new total line is added before =
    ap (λ (js : List JoinedFile). js ++ joined_from files fields ss (place + 1) more) (added ∙ ap (λ (l : Option Specification). old ++ joined_if files fields file place l) is
    ∙ ap (λ (js : List JoinedFile). old ++ js) (first_joined files fields file place (lines_to files ss place)))
    ∙ append_assoc old (joined_by_first files fields file place (lines_to files ss place)) (joined_from files fields ss (place + 1) more) ∙ before

-- ---- fields

pub sequence_is : (to : List Field) (name : Option (List ℕ)) (descend : Bool) → sequence_by (field_of_name to name) descend ≡ sequence_of_name to name descend
sequence_is to None descend = refl
sequence_is to (Some name) descend = refl

pub fields_of_nth : (bases : List ℕ → Option PhysicalSpec) (files : List (List ℕ)) (place : ℕ)
    → fields_at (map (fields_of_file bases) files) place ≡ fields_of_name bases (slice_get files place)
fields_of_nth bases files place = ap (λ (o : Option (List Field)). unwrap_or o []) (slice_get-map (fields_of_file bases) files place) ∙ or_none (slice_get files place)
  where
    or_none : (o : Option (List ℕ)) → unwrap_or (option_map (fields_of_file bases) o) [] ≡ fields_of_name bases o
    or_none None = refl
    or_none (Some file) = refl

-- ---- places

abbrev pub IsBelow : ℕ → Option ℕ → Type 0
IsBelow n None = Unit {0}
IsBelow n (Some place) = place < n

place_below : (at : ℕ) (files : List (List ℕ)) (name : List ℕ) → IsBelow (at + length files) (place_from at files name)
place_below at [] name = tt
place_below at (file ∷ files) name =
    let one_more : at + 1 + length files ≡ at + length (file ∷ files) = omega arith in
    subst (λ (n : ℕ). IsBelow n (place_from at (file ∷ files) name)) one_more (one (pointwise nat_eq file name) (place_below (at + 1) files name))
  where
    one : (b : Bool) → IsBelow (at + 1 + length files) (place_from (at + 1) files name) → IsBelow (at + 1 + length files) (if b then Some at else place_from (at + 1) files name)
    one true more = omega arith
    one false more = more

pub place_within : (files : List (List ℕ)) (name : List ℕ) → IsBelow (length files) (place_from 0 files name)
place_within files name =
    let all : 0 + length files ≡ length files = omega arith in
    subst (λ (n : ℕ). IsBelow n (place_from 0 files name)) all (place_below 0 files name)

-- a file is joined from one of the files
pub from_within : (files : List (List ℕ)) (s : Specification) → place_or_first (link_of files s) ≤ length files
from_within files s = of_keyword (first_named (codes "JOIN") s.keywords)
  where
    when_before : (from to : ℕ) → from < length files → (b : Bool) → place_or_first (if b then Some (record { from = from; to = to }) else None) ≤ length files
    when_before from to low true = omega (arith, low)
    when_before from to low false = omega arith

    between : (from to : Option ℕ) → IsBelow (length files) from → place_or_first (link_between from to) ≤ length files
    between None to low = omega arith
    between (Some from) None low = omega arith
    between (Some from) (Some to) low = when_before from to low (nat_lt from to)

    of_names : (ns : List (List ℕ)) → place_or_first (link_of_names files ns) ≤ length files
    of_names [] = omega arith
    of_names (a ∷ []) = omega arith
    of_names (a ∷ b ∷ []) = between (place_from 0 files a) (place_from 0 files b) (place_within files a)
    of_names (a ∷ b ∷ c ∷ ns) = omega arith

    of_two : (b : Bool) → place_or_first (if b then Some (record { from = 0; to = 1 }) else None) ≤ length files
    of_two true = omega arith
    of_two false = omega arith

    of_keyword : (k : Option Keyword) → place_or_first (link_said files k) ≤ length files
    of_keyword None = of_two (length files == 2)
    of_keyword (Some k) = of_names (names_among (arguments_of k))
