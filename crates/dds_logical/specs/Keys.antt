-- What is the key of a logical format, and what is wrong with its lines? (DDS for Physical and Logical Files, "Key field
-- level". That a format with fewer key fields lacks the later positions is this project's own.)
use Rattle.std.specs.Prelude.{ℕ, ◌-◌, Bool, true, false, not, ◌&&◌, List, [], ◌∷◌, ◌++◌, length, map, flat_map, drop, replicate, Option, Some, None, if◌then◌else◌}
use Rattle.std.specs.List.{list_any}
use Rattle.key_spec.specs.declared.KeyPart.{KeyPart}
use Rattle.key_spec.specs.declared.KeyPart.TheVariants as parts
use Rattle.record_fmt.specs.declared.formats.Field.{Field}
use Rattle.dds_physical.below.dds_source.specs.declared.faults.DdsFault.{DdsFault}
use Rattle.dds_physical.below.dds_source.specs.declared.faults.DdsCause.TheVariants.{BadName, NoSuchField, KeyMismatch}
use Rattle.dds_physical.below.dds_source.specs.declared.specifications.NameEntry.{NameEntry}
use Rattle.dds_physical.below.dds_source.specs.declared.specifications.NameEntry.TheVariants as names
use Rattle.dds_physical.below.dds_source.specs.declared.specifications.Specification.{Specification}
use Rattle.dds_physical.specs.Entries.{when}
use Rattle.dds_logical.specs.declared.limits.TheConstants.{MOST_KEY_FIELDS}
use Rattle.dds_physical.specs.Places.{fault_at}
use Rattle.dds_physical.specs.Names.{name_of, field_named, is_field}
use Rattle.dds_physical.specs.Lines.{is_blank}
use Rattle.dds_physical.specs.Draft.{key_part}
use Rattle.dds_logical.specs.declared.keyword_places.KeywordPlace.TheVariants as places
use Rattle.dds_logical.specs.FormatLines.{FormatLines, key_lines}
use Rattle.dds_logical.specs.KeywordRules.{logical_keyword_faults}
use Rattle.dds_logical.specs.Fields.{is_same_type, names_twice, too_many_faults}

-- ---- what it is

abbrev pub field_of_name : List Field → Option (List ℕ) → Option Field
field_of_name fields None = None
field_of_name fields (Some name) = field_named name fields

-- the positions of lines: fields of the format, or for *NONE a position that it lacks
abbrev pub parts_of_lines : List Field → List Specification → List KeyPart
parts_of_lines fields ss = map (λ s. key_part (field_of_name fields (name_of s.name)) s.keywords) ss

-- as many positions as the file has
abbrev pub padded : ℕ → List KeyPart → List KeyPart
padded count ps = ps ++ replicate (count - length ps) parts.Absent

-- ---- lines

-- no field of the format; *NONE stands where there are several formats
abbrev pub is_no_key : (is_multi : Bool) → List Field → NameEntry → Bool
is_no_key is_multi fields names.Blank = true
is_no_key is_multi fields (names.Named name) = not (is_field (Some name) fields)
is_no_key is_multi fields names.StarNone = not is_multi

-- NoSuchField, as above
abbrev pub key_name_faults : (is_multi : Bool) → List Field → Specification → List DdsFault
key_name_faults is_multi fields s = when (is_no_key is_multi fields s.name) (fault_at s 19 NoSuchField)

abbrev pub key_line_faults : (is_join is_multi : Bool) → List Field → Specification → List DdsFault
key_line_faults is_join is_multi fields s =
    when (is_blank s.name) (fault_at s 19 BadName)
    ++ key_name_faults is_multi fields s
    ++ logical_keyword_faults is_join places.Key s.keywords

-- the key lines of a format with these fields
abbrev pub key_lines_faults : (is_join is_multi : Bool) → List Field → List Specification → List DdsFault
key_lines_faults is_join is_multi fields ss =
    names_twice [] ss ++ too_many_faults MOST_KEY_FIELDS ss ++ flat_map (key_line_faults is_join is_multi fields) ss

-- ---- positions of several formats

abbrev pub is_same_flag : Bool → Bool → Bool
is_same_flag a b = if a then b else not b

-- both have the position, with other types, DESCEND or ABSVAL
abbrev pub parts_differ : KeyPart → KeyPart → Bool
parts_differ parts.Absent other = false
parts_differ (parts.Field t at descend absval) parts.Absent = false
parts_differ (parts.Field t at descend absval) (parts.Field u from falling unsigned) =
    not (is_same_type t u && is_same_flag descend falling && is_same_flag absval unsigned)

abbrev pub first_part : List KeyPart → KeyPart
first_part [] = parts.Absent
first_part (p ∷ ps) = p

-- KeyMismatch: a position differs from that of an earlier format
abbrev pub position_faults : (earlier : List (List KeyPart)) → List KeyPart → List Specification → List DdsFault
position_faults earlier [] ss = []
position_faults earlier (p ∷ ps) [] = []
position_faults earlier (p ∷ ps) (s ∷ ss) =
    when (list_any (λ others. parts_differ (first_part others) p) earlier) (fault_at s 19 KeyMismatch)
    ++ position_faults (map (λ others. drop 1 others) earlier) ps ss

-- over the formats in order, each with its positions
abbrev pub mismatch_faults : (FormatLines → List KeyPart) → (earlier : List (List KeyPart)) → List FormatLines → List DdsFault
mismatch_faults positions earlier [] = []
mismatch_faults positions earlier (f ∷ fs) = position_faults earlier (positions f) (key_lines f) ++ mismatch_faults positions (positions f ∷ earlier) fs
