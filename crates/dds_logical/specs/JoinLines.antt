-- How are the files of a join reached, and what is wrong with its J lines? (DDS for Physical and Logical Files, JFILE, JOIN,
-- JFLD, JDUPSEQ. That a J line without JFLD joins every record is this project's own.)
use Rattle.std.specs.Prelude.{ℕ, ◌+◌, Bool, true, false, not, ◌&&◌, ◌||◌, ◌==◌, nat_lt, nat_eq, List, [], ◌∷◌, ◌++◌, length, drop, slice_get, unwrap_or, filter, flat_map, Option, Some, None, is_none, if◌then◌else◌, codes}
use Rattle.std.specs.List.{filter_map, list_any}
use lib.Pointwise.{pointwise}
use Rattle.record_fmt.specs.FieldTypes.{is_numeric}
use Rattle.key_spec.specs.declared.KeyPart.{KeyPart}
use Rattle.key_spec.specs.declared.KeyPart.TheVariants as parts
use Rattle.record_fmt.specs.declared.formats.Field.{Field}
use Rattle.dds_physical.below.dds_source.specs.declared.arguments.Argument.{Argument}
use Rattle.dds_physical.below.dds_source.specs.declared.faults.DdsFault.{DdsFault}
use Rattle.dds_physical.below.dds_source.specs.declared.faults.DdsCause.TheVariants.{BadArguments, NoSuchField, KeyMismatch}
use Rattle.dds_physical.below.dds_source.specs.declared.keywords.Keyword.{Keyword}
use Rattle.dds_physical.below.dds_source.specs.declared.specifications.Specification.{Specification}
use Rattle.dds_physical.specs.Entries.{when}
use Rattle.dds_physical.specs.Places.{fault_of_keyword}
use Rattle.dds_physical.specs.Names.{field_named}
use Rattle.dds_physical.specs.Keywords.{has_name, first_named, arguments_of}
use Rattle.dds_physical.specs.KeywordRules.{is_special}
use Rattle.dds_physical.specs.References.{file_of_keyword}
use Rattle.file_model.specs.declared.views.FieldSource.TheVariants.{Copied}
use Rattle.file_model.specs.declared.joins.JoinPair.{JoinPair}
use Rattle.dds_logical.specs.declared.join_links.Link.{Link}
use Rattle.dds_logical.specs.declared.join_views.JoinedFile.{JoinedFile}
use Rattle.dds_logical.specs.declared.keyword_places.KeywordPlace.TheVariants as places
use Rattle.dds_logical.specs.KeywordArguments.{names_among}
use Rattle.dds_logical.specs.KeywordRules.{logical_keyword_faults}

-- ---- which file is joined to which

-- the place of a file in JFILE, from this place on: the first of its name
abbrev pub place_from : (at : ℕ) → List (List ℕ) → List ℕ → Option ℕ
place_from at [] name = None
place_from at (file ∷ files) name = if pointwise nat_eq file name then Some at else place_from (at + 1) files name

-- from an earlier file to a later one
abbrev pub link_between : Option ℕ → Option ℕ → Option Link
link_between None to = None
link_between (Some from) None = None
link_between (Some from) (Some to) = if nat_lt from to then Some (record { from = from; to = to }) else None

abbrev pub link_of_names : List (List ℕ) → List (List ℕ) → Option Link
link_of_names files [] = None
link_of_names files (a ∷ []) = None
link_of_names files (a ∷ b ∷ []) = link_between (place_from 0 files a) (place_from 0 files b)
link_of_names files (a ∷ b ∷ c ∷ more) = None

-- without JOIN the first of two files is joined to the second
abbrev pub link_said : List (List ℕ) → Option Keyword → Option Link
link_said files None = if length files == 2 then Some (record { from = 0; to = 1 }) else None
link_said files (Some k) = link_of_names files (names_among (arguments_of k))

abbrev pub link_of : List (List ℕ) → Specification → Option Link
link_of files s = link_said files (first_named (codes "JOIN") s.keywords)

abbrev pub leads_to : ℕ → Option Link → Bool
leads_to place None = false
leads_to place (Some link) = link.to == place

-- the J lines that reach a file
abbrev pub lines_to : List (List ℕ) → List Specification → ℕ → List Specification
lines_to files ss place = filter (λ s. leads_to place (link_of files s)) ss

-- ---- what is equal, and in which order

abbrev pub pair_of_fields : Option Field → Option Field → Option JoinPair
pair_of_fields None to = None
pair_of_fields (Some from) None = None
pair_of_fields (Some from) (Some to) =
    Some (record { from = record { ty = from.ty; source = Copied from.offset }; to = record { ty = to.ty; source = Copied to.offset } })

abbrev pub pair_of_names : (from to : List Field) → List (List ℕ) → Option JoinPair
pair_of_names from to [] = None
pair_of_names from to (a ∷ []) = None
pair_of_names from to (a ∷ b ∷ more) = pair_of_fields (field_named a from) (field_named b to)

-- of JFLD: a field of the file that is joined from, and one of the other
abbrev pub pair_said : (from to : List Field) → Keyword → Option JoinPair
pair_said from to k = if has_name (codes "JFLD") k then pair_of_names from to (names_among (arguments_of k)) else None

abbrev pub is_descending : List Argument → Bool
is_descending args = list_any (is_special (codes "*DESCEND")) args

abbrev pub sequence_by : Option Field → (descend : Bool) → KeyPart
sequence_by None descend = parts.Absent
sequence_by (Some f) descend = parts.Field f.ty f.offset descend false

abbrev pub sequence_of_name : List Field → Option (List ℕ) → (descend : Bool) → KeyPart
sequence_of_name to None descend = parts.Absent
sequence_of_name to (Some name) descend = sequence_by (field_named name to) descend

-- of JDUPSEQ
abbrev pub sequence_said : (to : List Field) → Option Keyword → KeyPart
sequence_said to None = parts.Absent
sequence_said to (Some k) = sequence_of_name to (file_of_keyword (Some k)) (is_descending (arguments_of k))

-- the fields of the file of a place
abbrev pub fields_at : List (List Field) → ℕ → List Field
fields_at fields place = unwrap_or (slice_get fields place) []

abbrev pub place_or_first : Option Link → ℕ
place_or_first None = 0
place_or_first (Some link) = link.from

-- the file of a place, reached by a line
abbrev pub joined_by : List (List Field) → List ℕ → ℕ → Option Link → Specification → JoinedFile
joined_by fields file place link s = record {
  file = file;
  from = place_or_first link;
  pairs = filter_map (pair_said (fields_at fields (place_or_first link)) (fields_at fields place)) s.keywords;
  sequence = sequence_said (fields_at fields place) (first_named (codes "JDUPSEQ") s.keywords);
}

-- by the first line that reaches it
abbrev pub joined_by_first : List (List ℕ) → List (List Field) → List ℕ → ℕ → List Specification → List JoinedFile
joined_by_first files fields file place [] = []
joined_by_first files fields file place (s ∷ ss) = joined_by fields file place (link_of files s) s ∷ []

-- the secondary files, from this place on
abbrev pub joined_from : (files : List (List ℕ)) → List (List Field) → List Specification → (place : ℕ) → List (List ℕ) → List JoinedFile
joined_from files fields ss place [] = []
joined_from files fields ss place (file ∷ more) =
    joined_by_first files fields file place (lines_to files ss place) ++ joined_from files fields ss (place + 1) more

-- ---- what is wrong with it

-- it names two files, and joins no earlier one of JFILE to a later one
abbrev pub is_link_wrong : List (List ℕ) → Option Keyword → Bool
is_link_wrong files None = not (length files == 2)
is_link_wrong files (Some k) = (length (names_among (arguments_of k)) == 2) && is_none (link_said files (Some k))

-- a file that isn't reached by exactly one line, from this place on
abbrev pub is_one_unreached : List (List ℕ) → List Specification → (place : ℕ) → List (List ℕ) → Bool
is_one_unreached files ss place [] = false
is_one_unreached files ss place (file ∷ more) = not (length (lines_to files ss place) == 1) || is_one_unreached files ss (place + 1) more

-- BadArguments, at JFILE: a JOIN that isn't as above, or a secondary that isn't reached by exactly one
abbrev pub link_faults : List (List ℕ) → List Specification → Option Keyword → List DdsFault
link_faults files ss None = []
link_faults files ss (Some k) =
    when (list_any (λ s. is_link_wrong files (first_named (codes "JOIN") s.keywords)) ss || is_one_unreached files ss 1 (drop 1 files)) (fault_of_keyword BadArguments k)

-- a number and a text
abbrev pub is_pair_mismatched : Option JoinPair → Bool
is_pair_mismatched None = false
is_pair_mismatched (Some pair) = if is_numeric pair.from.ty.kind then not (is_numeric pair.to.ty.kind) else is_numeric pair.to.ty.kind

-- NoSuchField: JFLD names a field that its file doesn't have. KeyMismatch: fields of different kinds.
abbrev pub pair_faults : (from to : List Field) → Keyword → List DdsFault
pair_faults from to k =
    when (has_name (codes "JFLD") k && is_none (pair_said from to k)) (fault_of_keyword NoSuchField k)
    ++ when (is_pair_mismatched (pair_said from to k)) (fault_of_keyword KeyMismatch k)

abbrev pub is_sequence_missing : List Field → Option (List ℕ) → Bool
is_sequence_missing to None = false
is_sequence_missing to (Some name) = is_none (field_named name to)

-- NoSuchField: JDUPSEQ names a field that the file doesn't have
abbrev pub sequence_faults : (to : List Field) → Option Keyword → List DdsFault
sequence_faults to None = []
sequence_faults to (Some k) = when (is_sequence_missing to (file_of_keyword (Some k))) (fault_of_keyword NoSuchField k)

-- the fields that a line with a link names
abbrev pub linked_faults : List (List Field) → Option Link → Specification → List DdsFault
linked_faults fields None s = []
linked_faults fields (Some link) s =
    flat_map (pair_faults (fields_at fields link.from) (fields_at fields link.to)) s.keywords
    ++ sequence_faults (fields_at fields link.to) (first_named (codes "JDUPSEQ") s.keywords)

-- what is wrong with a J line
abbrev pub join_line_faults : List (List ℕ) → List (List Field) → Specification → List DdsFault
join_line_faults files fields s = logical_keyword_faults true places.Join s.keywords ++ linked_faults fields (link_of files s) s
