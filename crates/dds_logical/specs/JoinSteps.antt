-- What do the steps say in which the body reads the lines of a join? (Our own.)
use Rattle.std.specs.Prelude.{ℕ, ◌≤◌, Bool, true, false, ◌&&◌, nat_eq, List, [], ◌∷◌, map, Option, Some, None, if◌then◌else◌, codes}
use Rattle.std.specs.List.{AllByRecursion, filter_map}
use lib.Pointwise.{pointwise}
use Rattle.record_fmt.specs.declared.formats.Field.{Field}
use Rattle.dds_physical.below.dds_source.specs.declared.faults.DdsFault.{DdsFault}
use Rattle.dds_physical.below.dds_source.specs.declared.faults.DdsCause.TheVariants.{JoinKeyNotPrimary}
use Rattle.dds_physical.below.dds_source.specs.declared.specifications.Specification.{Specification}
use Rattle.dds_physical.specs.Entries.{when}
use Rattle.dds_physical.specs.Places.{fault_at}
use Rattle.dds_physical.specs.Names.{name_of, field_named}
use Rattle.dds_physical.specs.Keywords.{first_named}
use Rattle.file_model.specs.declared.joins.JoinPair.{JoinPair}
use Rattle.file_model.specs.declared.views.FieldSource.TheVariants.{Copied}
use Rattle.dds_logical.specs.declared.format_lines.LineKind.TheVariants as line_kinds
use Rattle.dds_logical.specs.declared.given_names.GivenNames.{GivenNames}
use Rattle.dds_logical.specs.declared.given_names.GivenNames.TheVariants as given
use Rattle.dds_logical.specs.declared.join_fields.FieldPlace.{FieldPlace}
use Rattle.dds_logical.specs.declared.join_links.Link.{Link}
use Rattle.dds_logical.specs.declared.join_pairs.FieldPair.{FieldPair}
use Rattle.dds_logical.specs.declared.join_views.JoinedField.{JoinedField}
use Rattle.dds_logical.specs.declared.join_views.JoinedFile.{JoinedFile}
use Rattle.dds_logical.specs.declared.limits.TheConstants.{MOST_JOINED}
use Rattle.dds_logical.specs.declared.named_fields.NamedField.{NamedField}
use Rattle.dds_logical.specs.Judged.{is_of}
use Rattle.dds_logical.specs.JoinFields.{PlacedField, is_secondary, place_of_line, placed_at}
use Rattle.dds_logical.specs.JoinLines.{is_link_wrong, joined_by, leads_to, link_between, link_of, pair_of_fields, pair_said, place_from, sequence_said}

-- ---- names among arguments

abbrev pub with_name_given : GivenNames → List ℕ → GivenNames
with_name_given given.Nothing name = given.One name
with_name_given (given.One a) name = given.Two a name
with_name_given (given.Two a b) name = given.More a b
with_name_given (given.More a b) name = given.More a b

abbrev pub with_given : GivenNames → Option (List ℕ) → GivenNames
with_given g None = g
with_given g (Some name) = with_name_given g name

-- those given, and these behind them
abbrev pub given_after : GivenNames → List (List ℕ) → GivenNames
given_after g [] = g
given_after g (name ∷ names) = given_after (with_name_given g name) names

abbrev pub are_two : GivenNames → Bool
are_two given.Nothing = false
are_two (given.One a) = false
are_two (given.Two a b) = true
are_two (given.More a b) = false

-- ---- links

abbrev pub link_of_given : List (List ℕ) → GivenNames → Option Link
link_of_given files given.Nothing = None
link_of_given files (given.One a) = None
link_of_given files (given.Two a b) = link_between (place_from 0 files a) (place_from 0 files b)
link_of_given files (given.More a b) = None

-- a J line that reaches the file of a place
unfoldable pub reaches : List (List ℕ) → (place : ℕ) → Specification → Bool
reaches files place s = is_of line_kinds.Join s.kind && leads_to place (link_of files s)

-- a J line with a link that is wrong
unfoldable pub links_wrong : List (List ℕ) → Specification → Bool
links_wrong files s = is_of line_kinds.Join s.kind && is_link_wrong files (first_named (codes "JOIN") s.keywords)

-- ---- pairs

abbrev pub pair_of : FieldPair → JoinPair
pair_of p = record { from = record { ty = p.from.ty; source = Copied p.from.offset }; to = record { ty = p.to.ty; source = Copied p.to.offset } }

abbrev pub pair_of_given : (from to : List Field) → GivenNames → Option JoinPair
pair_of_given from to given.Nothing = None
pair_of_given from to (given.One a) = None
pair_of_given from to (given.Two a b) = pair_of_fields (field_named a from) (field_named b to)
pair_of_given from to (given.More a b) = pair_of_fields (field_named a from) (field_named b to)

-- ---- secondary files

-- a file that a line joins from the file of a place, with the fields of both
abbrev pub joined_over : (file : List ℕ) → (from : ℕ) → (base to : List Field) → Specification → JoinedFile
joined_over file from base to s = record {
  file = file;
  from = from;
  pairs = filter_map (λ k. pair_said base to k) s.keywords;
  sequence = sequence_said to (first_named (codes "JDUPSEQ") s.keywords);
}

-- the file of a place, by the line that reaches it, if there is one
abbrev pub joined_if : List (List ℕ) → List (List Field) → List ℕ → ℕ → Option Specification → List JoinedFile
joined_if files fields file place None = []
joined_if files fields file place (Some s) = joined_by fields file place (link_of files s) s ∷ []

-- ---- fields of a join format

-- a name at least
abbrev pub is_one_named : List (List ℕ) → Bool
is_one_named [] = false
is_one_named (name ∷ names) = true

-- what a field of a join format is beside its name and what it shows
abbrev pub place_said_of : PlacedField → FieldPlace
place_said_of f = record { place = f.place; visible = f.visible }

abbrev pub named_of_placed : List PlacedField → List NamedField
named_of_placed fs = map (λ f. f.named) fs

abbrev pub places_of_placed : List PlacedField → List FieldPlace
places_of_placed fs = map place_said_of fs

-- the field of a line, if it describes one
unfoldable pub placed_if : List (List ℕ) → List (List Field) → Specification → Option PlacedField
placed_if files fields s = if is_of line_kinds.Field s.kind then placed_at fields s (place_of_line files fields s) else None

-- the place of the file of a field of a name
abbrev pub place_named : List NamedField → List FieldPlace → List ℕ → Option ℕ
place_named [] ps name = None
place_named (f ∷ fs) [] name = None
place_named (f ∷ fs) (p ∷ ps) name = if pointwise nat_eq f.name name then Some p.place else place_named fs ps name

abbrev pub is_secondary_named : List NamedField → List FieldPlace → Option (List ℕ) → Bool
is_secondary_named fs ps None = false
is_secondary_named fs ps (Some name) = is_secondary (place_named fs ps name)

-- JoinKeyNotPrimary: a key field of a secondary file
abbrev pub key_place_faults : List NamedField → List FieldPlace → Specification → List DdsFault
key_place_faults fs ps s = when (is_secondary_named fs ps (name_of s.name)) (fault_at s 19 JoinKeyNotPrimary)

-- what a field shows, and of which file
abbrev pub joined_field_of : NamedField → FieldPlace → JoinedField
joined_field_of f p = record { field = record { file = p.place; field = f.shown.field }; shown = p.visible }

abbrev pub joined_of : List NamedField → List FieldPlace → List JoinedField
joined_of [] ps = []
joined_of (f ∷ fs) [] = []
joined_of (f ∷ fs) (p ∷ ps) = joined_field_of f p ∷ joined_of fs ps

-- they are of files of a join
abbrev pub AreLow : List FieldPlace → Type 0
AreLow ps = AllByRecursion (λ p. p.place ≤ MOST_JOINED) ps
