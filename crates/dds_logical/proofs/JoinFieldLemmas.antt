-- The fields of a join format, and the files that they are of.
use Rattle.std.proofs.Common.{◌≡◌, ◌∙◌, ◌≤◌, ◌<◌, ◌+◌, ◌-◌, ◌&&◌, ◌||◌, ap, refl, ℕ, suc, Bool, true, false, nat_eq, nat_lt, nat_le, not, inl, inr, List, [], ◌∷◌, ◌++◌, filter, map, flat_map, length, Option, Some, None, is_some, if◌then◌else◌, codes, arith}
use Rattle.std.specs.List.{filter_map, cons_option}
use Rattle.std.specs.Option.{option_to_list}
use Rattle.std.proofs.lemmas.Bool.{cases_Bool}
use Rattle.std.proofs.lemmas.Bool.Decides.{nat_tests}
use lib.Pointwise.{pointwise}
use Rattle.record_fmt.specs.declared.formats.Field.{Field}
use Rattle.dds_physical.below.dds_source.specs.declared.faults.DdsFault.{DdsFault}
use Rattle.dds_physical.below.dds_source.specs.declared.faults.DdsCause.TheVariants.{JoinKeyNotPrimary}
use Rattle.dds_physical.below.dds_source.specs.declared.arguments.Argument.{Argument}
use Rattle.dds_physical.below.dds_source.specs.declared.keywords.Keyword.{Keyword}
use Rattle.dds_physical.below.dds_source.specs.declared.specifications.Specification.{Specification}
use Rattle.dds_physical.specs.Entries.{when}
use Rattle.dds_physical.specs.declared.physical_files.PhysicalSpec.{PhysicalSpec}
use Rattle.dds_physical.specs.Places.{fault_at}
use Rattle.dds_physical.specs.Names.{name_of}
use Rattle.dds_physical.specs.Keywords.{first_named, arguments_of}
use Rattle.dds_physical.specs.KeywordRules.{argument_name}
use Rattle.dds_logical.specs.declared.format_lines.LineKind.TheVariants as line_kinds
use Rattle.dds_logical.specs.declared.join_views.JoinedField.{JoinedField}
use Rattle.dds_logical.specs.declared.limits.TheConstants.{MOST_JOINED}
use Rattle.dds_logical.specs.declared.named_fields.NamedField.{NamedField}
use Rattle.dds_logical.specs.Bases.{fields_of_file}
use Rattle.dds_logical.specs.Fields.{field_of_line}
use Rattle.dds_logical.specs.KeywordArguments.{whole_number}
use Rattle.dds_logical.specs.Origins.{lacks_one, origin_names, own_name}
use Rattle.dds_logical.specs.Judged.{is_of, lines_of}
use Rattle.dds_logical.specs.JoinLines.{fields_at}
use Rattle.dds_logical.specs.JoinFields.{PlacedField, first_place, is_of_secondary, is_secondary, place_by, place_of_field, place_of_file, place_of_line, place_of_number, place_said, placed, placed_at, placed_fields, places_of_names, places_with, primary_key_faults}
use Rattle.dds_logical.specs.JoinViews.{joined_field}
use Rattle.dds_logical.specs.JoinSteps.{AreLow, is_one_named, is_secondary_named, joined_of, key_place_faults, named_of_placed, place_named, placed_if, places_of_placed}
use Rattle.dds_logical.proofs.JoinLineLemmas.{IsBelow, place_within}

-- ---- its file

pub some_named : (m : Option (List ℕ)) (ns : List (List ℕ)) → is_one_named (cons_option m ns) ≡ (is_some m || is_one_named ns)
some_named None ns = refl
some_named (Some n) ns = refl

pub own_named : (m : Option (List ℕ)) → is_one_named (own_name m) ≡ is_some m
own_named None = refl
own_named (Some n) = refl

pub places_are : (fields : List (List Field)) (ns : List (List ℕ)) → is_one_named ns ≡ true → places_with 0 fields ns ≡ places_of_names fields ns
places_are fields [] h = absurd cc
places_are fields (n ∷ ns) h = refl

pub places_none : (fields : List (List Field)) (ns : List (List ℕ)) → is_one_named ns ≡ false → places_of_names fields ns ≡ []
places_none fields [] h = refl
places_none fields (n ∷ ns) h = absurd cc

pub several_are : (fields : List (List Field)) (ns : List (List ℕ)) → (is_one_named ns && nat_lt 1 (length (places_with 0 fields ns))) ≡ nat_lt 1 (length (places_of_names fields ns))
several_are fields [] = refl
several_are fields (n ∷ ns) = refl

-- as many files have all the names as there are places of such files
pub having_are : (bases : List ℕ → Option PhysicalSpec) (at : ℕ) (ns files : List (List ℕ))
    → length (filter (λ file. not (lacks_one (fields_of_file bases file) ns)) files) ≡ length (places_with at (map (fields_of_file bases) files) ns)
having_are bases at ns [] = refl
having_are bases at ns (file ∷ files) = one (lacks_one (fields_of_file bases file) ns) (having_are bases (at + 1) ns files)
  where
    one : (b : Bool) → length (filter (λ other. not (lacks_one (fields_of_file bases other) ns)) files) ≡ length (places_with (at + 1) (map (fields_of_file bases) files) ns)
        → length (if not b then file ∷ filter (λ other. not (lacks_one (fields_of_file bases other) ns)) files else filter (λ other. not (lacks_one (fields_of_file bases other) ns)) files)
        ≡ length (if b then places_with (at + 1) (map (fields_of_file bases) files) ns else at ∷ places_with (at + 1) (map (fields_of_file bases) files) ns)
    one true more = more
    one false more = ap suc more

-- ---- one more

pub named_more : (o : Option PlacedField) (fs : List PlacedField) → named_of_placed (option_to_list o) ++ named_of_placed fs ≡ named_of_placed (cons_option o fs)
named_more None fs = refl
named_more (Some f) fs = refl

pub places_more : (o : Option PlacedField) (fs : List PlacedField) → places_of_placed (option_to_list o) ++ places_of_placed fs ≡ places_of_placed (cons_option o fs)
places_more None fs = refl
places_more (Some f) fs = refl

pub placed_are : (files : List (List ℕ)) (fields : List (List Field)) (ss : List Specification) → filter_map (placed_if files fields) ss ≡ placed_fields files fields (lines_of line_kinds.Field ss)
unfolding placed_if
placed_are files fields [] = refl
placed_are files fields (s ∷ ss) = elim (cases_Bool (is_of line_kinds.Field s.kind)) [
  | inl h ↦ rw h (ap (λ (fs : List PlacedField). cons_option (placed_at fields s (place_of_line files fields s)) fs) (placed_are files fields ss))
  | inr h ↦ rw h (placed_are files fields ss)
]

-- ---- keys

place_is : (fs : List PlacedField) (name : List ℕ) → place_named (named_of_placed fs) (places_of_placed fs) name ≡ place_of_field fs name
place_is [] name = refl
place_is (f ∷ fs) name = ap (λ (o : Option ℕ). if pointwise nat_eq f.named.name name then Some f.place else o) (place_is fs name)

secondary_is : (fs : List PlacedField) (name : Option (List ℕ)) → is_secondary_named (named_of_placed fs) (places_of_placed fs) name ≡ is_of_secondary fs name
secondary_is fs None = refl
secondary_is fs (Some name) = ap is_secondary (place_is fs name)

pub keys_are : (fs : List PlacedField) (ss : List Specification) → flat_map (key_place_faults (named_of_placed fs) (places_of_placed fs)) ss ≡ flat_map (primary_key_faults fs) ss
keys_are fs [] = refl
keys_are fs (s ∷ ss) =
    ap (λ (b : Bool). when b (fault_at s 19 JoinKeyNotPrimary) ++ flat_map (key_place_faults (named_of_placed fs) (places_of_placed fs)) ss) (secondary_is fs (name_of s.name))
    ∙ ap (λ (gs : List DdsFault). primary_key_faults fs s ++ gs) (keys_are fs ss)

-- ---- what replies have

pub joined_are : (fs : List PlacedField) → joined_of (named_of_placed fs) (places_of_placed fs) ≡ map joined_field fs
joined_are [] = refl
joined_are (f ∷ fs) = ap (λ (gs : List JoinedField). joined_field f ∷ gs) (joined_are fs)

-- ---- places of files

first_below : (at n : ℕ) (fields : List (List Field)) (ns : List (List ℕ)) → at + length fields ≡ n → IsBelow n (first_place (places_with at fields ns))
first_below at n [] ns all = tt
first_below at n (f ∷ fields) ns all = one (lacks_one f ns) (first_below (at + 1) n fields ns (omega (arith, all)))
  where
    one : (b : Bool) → IsBelow n (first_place (places_with (at + 1) fields ns)) → IsBelow n (first_place (if b then places_with (at + 1) fields ns else at ∷ places_with (at + 1) fields ns))
    one true more = more
    one false more = omega (arith, all)

of_names_below : (n : ℕ) (fields : List (List Field)) (ns : List (List ℕ)) → length fields ≡ n → IsBelow n (first_place (places_of_names fields ns))
of_names_below n fields [] all = tt
of_names_below n fields (m ∷ ns) all = first_below 0 n fields (m ∷ ns) (omega (arith, all))

number_below : (count : ℕ) (number : Option ℕ) → IsBelow count (place_of_number count number)
number_below count None = tt
number_below count (Some n) = one (nat_le 1 n && nat_le n count) below
  where
    below : (nat_le 1 n && nat_le n count) ≡ true → n - 1 < count
    below h = grind (arith, nat_tests, h)

    one : (b : Bool) → (b ≡ true → n - 1 < count) → IsBelow count (if b then Some (n - 1) else None)
    one true low = low refl
    one false low = tt

file_below : (files : List (List ℕ)) (name : Option (List ℕ)) (number : Option ℕ) → IsBelow (length files) (place_of_file files name number)
file_below files None number = number_below (length files) number
file_below files (Some name) number = place_within files name

said_below : (files : List (List ℕ)) (args : List Argument) → IsBelow (length files) (place_said files args)
said_below files [] = tt
said_below files (a ∷ args) = file_below files (argument_name a) (whole_number a)

line_below : (files : List (List ℕ)) (fields : List (List Field)) (s : Specification) (k : Option Keyword) → length fields ≡ length files → IsBelow (length files) (place_by files fields s k)
line_below files fields s None all = of_names_below (length files) fields (origin_names s) all
line_below files fields s (Some k) all = said_below files (arguments_of k)

-- the field of a line is of one of the files
abbrev IsPlaced : ℕ → Option PlacedField → Type 0
IsPlaced n None = Unit {0}
IsPlaced n (Some f) = f.place < n

placed_below : (n : ℕ) (fields : List (List Field)) (s : Specification) (place : Option ℕ) → IsBelow n place → IsPlaced n (placed_at fields s place)
placed_below n fields s None low = tt
placed_below n fields s (Some place) low = one (field_of_line true (fields_at fields place) s)
  where
    one : (f : Option NamedField) → IsPlaced n (placed s.columns.usage place f)
    one None = tt
    one (Some f) = low

pub places_low : (files : List (List ℕ)) (fields : List (List Field)) (ss : List Specification) → length fields ≡ length files → length files ≤ MOST_JOINED
    → AreLow (places_of_placed (filter_map (placed_if files fields) ss))
unfolding placed_if
places_low files fields [] all few = tt
places_low files fields (s ∷ ss) all few = elim (cases_Bool (is_of line_kinds.Field s.kind)) [
  | inl h ↦ rw h (one (placed_at fields s (place_of_line files fields s))
      (placed_below (length files) fields s (place_of_line files fields s) (line_below files fields s (first_named (codes "JREF") s.keywords) all)) (places_low files fields ss all few))
  | inr h ↦ rw h (places_low files fields ss all few)
]
  where
    one : (o : Option PlacedField) → IsPlaced (length files) o → AreLow (places_of_placed (filter_map (placed_if files fields) ss))
        → AreLow (places_of_placed (cons_option o (filter_map (placed_if files fields) ss)))
    one None here more = more
    one (Some f) here more = (omega (arith, here, few), more)
