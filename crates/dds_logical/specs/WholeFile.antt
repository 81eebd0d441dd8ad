-- What is wrong with the formats of a logical file, and with the file as a whole? (DDS for Physical and Logical Files, "File
-- level" and "Record format level", PFILE.)
use Rattle.std.specs.Prelude.{ℕ, Bool, ◌||◌, ◌&&◌, ◌==◌, nat_lt, List, [], ◌++◌, length, map, Option, Some, None, is_none, if◌then◌else◌, codes}
use Rattle.std.specs.List.{list_any}
use Rattle.key_spec.specs.declared.KeyPart.{KeyPart}
use Rattle.record_fmt.specs.declared.formats.Field.{Field}
use Rattle.record_fmt.specs.declared.formats.TheConstants.{MOST_BYTES}
use Rattle.record_fmt.specs.Layout.{record_length}
use Rattle.dds_physical.below.dds_source.specs.declared.faults.DdsFault.{DdsFault}
use Rattle.dds_physical.below.dds_source.specs.declared.faults.DdsCause.TheVariants.{BadName, NoFormat, TooLarge, NoBase}
use Rattle.dds_physical.below.dds_source.specs.declared.keywords.Keyword.{Keyword}
use Rattle.dds_physical.below.dds_source.specs.declared.specifications.Specification.{Specification}
use Rattle.dds_physical.specs.Entries.{when}
use Rattle.dds_logical.specs.declared.limits.TheConstants.{MOST_KEY_BYTES}
use Rattle.dds_physical.specs.declared.physical_files.PhysicalSpec.{PhysicalSpec}
use Rattle.dds_physical.specs.Places.{fault_at, fault_of_keyword}
use Rattle.dds_physical.specs.Names.{name_of}
use Rattle.dds_physical.specs.Keywords.{first_named, arguments_of}
use Rattle.dds_physical.specs.WholeFile.{fault_of_file}
use Rattle.dds_physical.specs.Draft.{key_length}
use Rattle.dds_logical.specs.declared.keyword_places.KeywordPlace.TheVariants as places
use Rattle.dds_logical.specs.declared.limits.TheConstants.{MOST_FORMATS}
use Rattle.dds_logical.specs.FormatLines.{FormatLines, based_on, field_lines}
use Rattle.dds_logical.specs.KeywordArguments.{names_among}
use Rattle.dds_logical.specs.KeywordRules.{logical_keyword_faults}
use Rattle.dds_logical.specs.Fields.{names_twice, too_many_faults}

-- ---- formats

abbrev pub is_no_base : (List ℕ → Option PhysicalSpec) → List ℕ → Bool
is_no_base bases file = is_none (bases file)

-- NoBase: PFILE or JFILE names what is no physical file
abbrev pub base_faults : (List ℕ → Option PhysicalSpec) → Option Keyword → List DdsFault
base_faults bases None = []
base_faults bases (Some k) = when (list_any (is_no_base bases) (names_among (arguments_of k))) (fault_of_keyword NoBase k)

-- what is wrong with the line of a record format
abbrev pub head_faults : (List ℕ → Option PhysicalSpec) → (is_join : Bool) → Specification → List DdsFault
head_faults bases is_join s =
    when (is_none (name_of s.name)) (fault_at s 19 BadName)
    ++ logical_keyword_faults is_join places.Record s.keywords
    ++ base_faults bases (first_named (if is_join then codes "JFILE" else codes "PFILE") s.keywords)

-- DuplicateName: two formats of one name. TooLarge: more than a file has.
abbrev pub formats_faults : List FormatLines → List DdsFault
formats_faults fs = names_twice [] (map (λ f. f.head) fs) ++ too_many_faults MOST_FORMATS (map (λ f. f.head) fs)

-- ---- the whole

-- NoFormat: there is none, one is over no file, or a join format has no fields
abbrev pub lacks_format : (is_join : Bool) → List FormatLines → Bool
lacks_format is_join fs =
    (length fs == 0)
    || list_any (λ f. is_none (based_on f.head.keywords)) fs
    || (is_join && list_any (λ f. length (field_lines f) == 0) fs)

abbrev pub format_missing_faults : ℕ → (is_join : Bool) → List FormatLines → List DdsFault
format_missing_faults last_line is_join fs = when (lacks_format is_join fs) (fault_of_file last_line NoFormat)

-- TooLarge: the record, or the key, has too many bytes
abbrev pub size_faults : ℕ → List Field → List KeyPart → List DdsFault
size_faults last_line fields ps =
    when (nat_lt MOST_BYTES (record_length fields)) (fault_of_file last_line TooLarge)
    ++ when (nat_lt MOST_KEY_BYTES (key_length ps)) (fault_of_file last_line TooLarge)
