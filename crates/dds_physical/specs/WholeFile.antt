-- What is wrong with the keywords of a file, and with the file as a whole.
-- (DDS for Physical and Logical Files, "File level"; FIFO, LIFO, REF, UNIQUE.)
use Rattle.std.specs.Prelude.{ℕ, Bool, true, false, not, ◌||◌, nat_lt, List, [], ◌∷◌, ◌++◌, Option, Some, None, is_none, if◌then◌else◌, codes}
use Rattle.std.specs.List.{list_any}
use Rattle.record_fmt.specs.declared.formats.Format.{Format}
use Rattle.record_fmt.specs.declared.formats.TheConstants.{MOST_BYTES}
use Rattle.record_fmt.specs.Layout.{record_length}
use Rattle.dds_source.specs.declared.faults.DdsFault.{DdsFault}
use Rattle.dds_source.specs.declared.faults.DdsCause.{DdsCause}
use Rattle.dds_source.specs.declared.faults.DdsCause.TheVariants.{Conflict, NoFormat, UnknownReference, TooLarge}
use Rattle.dds_source.specs.declared.keywords.Keyword.{Keyword}
use Rattle.dds_source.specs.declared.specifications.Specification.{Specification}
use Rattle.dds_source.specs.declared.specifications.SpecificationKind.{SpecificationKind}
use Rattle.dds_source.specs.declared.specifications.SpecificationKind.TheVariants as kinds
use Rattle.dds_source.specs.Entries.{when}
use Rattle.dds_physical.specs.declared.draft.Draft.{Draft}
use Rattle.dds_physical.specs.declared.draft.TheConstants.{MOST_KEY_BYTES}
use Rattle.dds_physical.specs.declared.keyword_names.Place.TheVariants as places
use Rattle.dds_physical.specs.Places.{fault_of_keyword, at_keyword}
use Rattle.dds_physical.specs.Keywords.{has_name, first_named, arguments_of}
use Rattle.dds_physical.specs.KeywordRules.{keyword_faults}
use Rattle.dds_physical.specs.References.{is_file_missing}
use Rattle.dds_physical.specs.Draft.{key_length}

-- Lines of a kind.

abbrev pub is_field_kind : SpecificationKind → Bool
is_field_kind kinds.Record = false
is_field_kind kinds.Field = true
is_field_kind kinds.Key = false
is_field_kind kinds.Select = false
is_field_kind kinds.Omit = false
is_field_kind kinds.And = false
is_field_kind kinds.Join = false

abbrev pub is_key_kind : SpecificationKind → Bool
is_key_kind kinds.Record = false
is_key_kind kinds.Field = false
is_key_kind kinds.Key = true
is_key_kind kinds.Select = false
is_key_kind kinds.Omit = false
is_key_kind kinds.And = false
is_key_kind kinds.Join = false

abbrev pub has_field : List Specification → Bool
has_field ss = list_any (λ s. is_field_kind s.kind) ss

abbrev pub has_key : List Specification → Bool
has_key ss = list_any (λ s. is_key_kind s.kind) ss

-- Keywords of the file.

-- LIFO behind FIFO, or FIFO behind LIFO
abbrev pub other_order : List Keyword → Option Keyword
other_order [] = None
other_order (k ∷ ks) =
    if has_name (codes "FIFO") k then first_named (codes "LIFO") ks
    else (if has_name (codes "LIFO") k then first_named (codes "FIFO") ks
    else other_order ks)

-- UNIQUE in a file without a key
abbrev pub keyless_unique : Bool → List Keyword → Option Keyword
keyless_unique has_key ks = if has_key then None else first_named (codes "UNIQUE") ks

-- UnknownReference: REF names what isn't there
abbrev pub reference_file_faults : (List ℕ → Option Format) → Option Keyword → List DdsFault
reference_file_faults formats None = []
reference_file_faults formats (Some k) = when (is_file_missing formats (arguments_of k)) (fault_of_keyword UnknownReference k)

-- Conflict: both orders, at the later one; UNIQUE without a key
abbrev pub file_faults : (List ℕ → Option Format) → List Keyword → List Specification → List DdsFault
file_faults formats ks ss =
    keyword_faults places.File ks
    ++ at_keyword Conflict (other_order ks)
    ++ at_keyword Conflict (keyless_unique (has_key ss) ks)
    ++ reference_file_faults formats (first_named (codes "REF") ks)

-- The whole.

-- on its last line, in its first column
abbrev pub fault_of_file : ℕ → DdsCause → DdsFault
fault_of_file last_line cause = record { line = last_line; column = 1; cause = cause }

-- TooLarge: the record, or the key, has too many bytes. NoFormat: there is no record format, or no field.
abbrev pub whole_faults : ℕ → List Specification → Draft → List DdsFault
whole_faults last_line ss d =
    when (nat_lt MOST_BYTES (record_length d.fields)) (fault_of_file last_line TooLarge)
    ++ when (nat_lt MOST_KEY_BYTES (key_length d.key_parts)) (fault_of_file last_line TooLarge)
    ++ when (is_none d.name || not (has_field ss)) (fault_of_file last_line NoFormat)
