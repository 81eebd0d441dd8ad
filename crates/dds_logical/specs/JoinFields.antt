-- Of which file is a field of a join format, and what is wrong with its line? (DDS for Physical and Logical Files, JREF. That
-- without JREF the only file counts that has all the names of the line is this project's own.)
use Rattle.std.specs.Prelude.{ℕ, ◌+◌, ◌-◌, Bool, true, false, not, ◌&&◌, ◌==◌, nat_le, nat_lt, List, [], ◌∷◌, ◌++◌, length, flat_map, Option, Some, None, if◌then◌else◌, codes}
use Rattle.std.specs.List.{filter_map}
use Rattle.record_fmt.specs.declared.formats.Field.{Field}
use Rattle.record_fmt.specs.declared.formats.TheConstants.{MOST_FIELDS}
use Rattle.dds_physical.below.dds_source.specs.declared.arguments.Argument.{Argument}
use Rattle.dds_physical.below.dds_source.specs.declared.faults.DdsFault.{DdsFault}
use Rattle.dds_physical.below.dds_source.specs.declared.faults.DdsCause.TheVariants.{BadArguments, JoinKeyNotPrimary}
use Rattle.dds_physical.below.dds_source.specs.declared.keywords.Keyword.{Keyword}
use Rattle.dds_physical.below.dds_source.specs.declared.specifications.Specification.{Specification}
use Rattle.dds_physical.specs.Entries.{when}
use Rattle.dds_physical.specs.Places.{fault_at, fault_of_keyword}
use Rattle.dds_physical.specs.Names.{name_of}
use Rattle.dds_physical.specs.Keywords.{first_named, arguments_of}
use Rattle.dds_physical.specs.KeywordRules.{argument_name}
use Rattle.dds_logical.specs.KeywordArguments.{whole_number}
use Rattle.dds_logical.specs.Origins.{origin_names, lacks_one}
use Rattle.dds_logical.specs.declared.named_fields.NamedField.{NamedField}
use Rattle.dds_logical.specs.Fields.{field_of_line, field_entry_faults, made_faults, names_twice, too_many_faults}
use Rattle.dds_logical.specs.JoinLines.{place_from, fields_at}
use lib.Pointwise.{pointwise}
use Rattle.std.specs.Prelude.{nat_eq}

-- a field of a join format
pub record PlacedField : Type 0 where
  -- the place of its file in JFILE
  pub place : ℕ
  -- replies have it
  pub visible : Bool
  pub named : NamedField

-- ---- its file

-- the places of the files that have all these names, from this place on
abbrev pub places_with : (at : ℕ) → List (List Field) → List (List ℕ) → List ℕ
places_with at [] names = []
places_with at (fields ∷ files) names = if lacks_one fields names then places_with (at + 1) files names else at ∷ places_with (at + 1) files names

abbrev pub places_of_names : List (List Field) → List (List ℕ) → List ℕ
places_of_names files [] = []
places_of_names files (name ∷ names) = places_with 0 files (name ∷ names)

-- a number from 1 on
abbrev pub place_of_number : (count : ℕ) → Option ℕ → Option ℕ
place_of_number count None = None
place_of_number count (Some n) = if nat_le 1 n && nat_le n count then Some (n - 1) else None

abbrev pub place_of_file : List (List ℕ) → Option (List ℕ) → Option ℕ → Option ℕ
place_of_file files None number = place_of_number (length files) number
place_of_file files (Some name) number = place_from 0 files name

-- JREF: a file, or its number in JFILE
abbrev pub place_said : List (List ℕ) → List Argument → Option ℕ
place_said files [] = None
place_said files (a ∷ more) = place_of_file files (argument_name a) (whole_number a)

abbrev pub first_place : List ℕ → Option ℕ
first_place [] = None
first_place (p ∷ ps) = Some p

-- by JREF, else the file that has what the line names
abbrev pub place_by : List (List ℕ) → List (List Field) → Specification → Option Keyword → Option ℕ
place_by files fields s None = first_place (places_of_names fields (origin_names s))
place_by files fields s (Some k) = place_said files (arguments_of k)

abbrev pub place_of_line : List (List ℕ) → List (List Field) → Specification → Option ℕ
place_of_line files fields s = place_by files fields s (first_named (codes "JREF") s.keywords)

-- ---- what it is

-- usage N isn't shown
abbrev pub is_visible : Option ℕ → Bool
is_visible None = true
is_visible (Some usage) = not (usage == 78)

abbrev pub placed : Option ℕ → ℕ → Option NamedField → Option PlacedField
placed usage place None = None
placed usage place (Some f) = Some (record { place = place; visible = is_visible usage; named = f })

abbrev pub placed_at : List (List Field) → Specification → Option ℕ → Option PlacedField
placed_at fields s None = None
placed_at fields s (Some place) = placed s.columns.usage place (field_of_line true (fields_at fields place) s)

abbrev pub placed_fields : List (List ℕ) → List (List Field) → List Specification → List PlacedField
placed_fields files fields ss = filter_map (λ s. placed_at fields s (place_of_line files fields s)) ss

-- ---- what is wrong with its line

-- over no file where none has what is named, so that the base field is missing
abbrev pub placed_faults : List (List Field) → Specification → Option ℕ → Option Keyword → List DdsFault
placed_faults fields s (Some place) reference = made_faults (fields_at fields place) s
placed_faults fields s None None = made_faults [] s
placed_faults fields s None (Some k) = fault_of_keyword BadArguments k ∷ []

-- BadArguments: several files have what is named, and no JREF tells which
abbrev pub several_faults : List (List Field) → Specification → Option Keyword → List DdsFault
several_faults fields s None = when (nat_lt 1 (length (places_of_names fields (origin_names s)))) (fault_at s 19 BadArguments)
several_faults fields s (Some k) = []

-- a field's line. BadArguments, at JREF: JFILE has no such file.
abbrev pub join_field_faults : List (List ℕ) → List (List Field) → Specification → List DdsFault
join_field_faults files fields s =
    field_entry_faults true s
    ++ placed_faults fields s (place_of_line files fields s) (first_named (codes "JREF") s.keywords)
    ++ several_faults fields s (first_named (codes "JREF") s.keywords)

abbrev pub join_fields_faults : List (List ℕ) → List (List Field) → List Specification → List DdsFault
join_fields_faults files fields ss =
    names_twice [] ss ++ too_many_faults MOST_FIELDS ss ++ flat_map (join_field_faults files fields) ss

-- ---- keys

-- the place of the file of a field of the format
abbrev pub place_of_field : List PlacedField → List ℕ → Option ℕ
place_of_field [] name = None
place_of_field (f ∷ fs) name = if pointwise nat_eq f.named.name name then Some f.place else place_of_field fs name

abbrev pub is_secondary : Option ℕ → Bool
is_secondary None = false
is_secondary (Some place) = not (place == 0)

abbrev pub is_of_secondary : List PlacedField → Option (List ℕ) → Bool
is_of_secondary fields None = false
is_of_secondary fields (Some name) = is_secondary (place_of_field fields name)

-- JoinKeyNotPrimary: a key field of a secondary file
abbrev pub primary_key_faults : List PlacedField → Specification → List DdsFault
primary_key_faults fields s = when (is_of_secondary fields (name_of s.name)) (fault_at s 19 JoinKeyNotPrimary)
