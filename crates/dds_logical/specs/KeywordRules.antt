-- Which keywords stand where in a logical file, and what is wrong with them? (DDS for Physical and Logical Files, "Keyword
-- entries for physical and logical files".)
use Rattle.std.specs.Prelude.{Bool, not, ◌&&◌, ◌||◌, List, [], ◌∷◌, ◌++◌, Option, None, if◌then◌else◌, codes}
use Rattle.dds_physical.below.dds_source.specs.declared.keywords.Keyword.{Keyword}
use Rattle.dds_physical.below.dds_source.specs.declared.faults.DdsFault.{DdsFault}
use Rattle.dds_physical.below.dds_source.specs.declared.faults.DdsCause.TheVariants.{UnknownKeyword, BadArguments, Conflict}
use Rattle.dds_physical.specs.Entries.{when}
use Rattle.dds_physical.specs.Places.{fault_of_keyword, at_keyword}
use Rattle.dds_physical.specs.Keywords.{has_name, first_named, is_heading}
use Rattle.dds_physical.specs.WholeFile.{other_order}
use Rattle.dds_logical.specs.declared.keyword_places.KeywordPlace.{KeywordPlace}
use Rattle.dds_logical.specs.declared.keyword_places.KeywordPlace.TheVariants as places
use Rattle.dds_logical.specs.KeywordArguments.{takes_its_arguments, is_compare_keyword}

-- ---- where they stand

abbrev pub is_file_keyword : Keyword → Bool
is_file_keyword k =
    has_name (codes "UNIQUE") k || has_name (codes "FIFO") k || has_name (codes "LIFO") k || has_name (codes "DYNSLT") k || has_name (codes "JDFTVAL") k

-- the files that a format is over: JFILE in a join file, else PFILE
abbrev pub is_files_keyword : (is_join : Bool) → Keyword → Bool
is_files_keyword is_join k = if is_join then has_name (codes "JFILE") k else has_name (codes "PFILE") k

abbrev pub is_origin_keyword : Keyword → Bool
is_origin_keyword k = has_name (codes "RENAME") k || has_name (codes "CONCAT") k || has_name (codes "SST") k || has_name (codes "JREF") k

abbrev pub is_logical_field_keyword : Keyword → Bool
is_logical_field_keyword k = is_origin_keyword k || is_heading k || has_name (codes "EDTCDE") k || has_name (codes "EDTWRD") k

abbrev pub is_selection_keyword : Keyword → Bool
is_selection_keyword k = is_compare_keyword k || has_name (codes "RANGE") k || has_name (codes "VALUES") k || has_name (codes "ALL") k

abbrev pub stands_at : (is_join : Bool) → KeywordPlace → Keyword → Bool
stands_at is_join places.File k = is_file_keyword k
stands_at is_join places.Record k = is_files_keyword is_join k || has_name (codes "TEXT") k
stands_at is_join places.Join k = has_name (codes "JOIN") k || has_name (codes "JFLD") k || has_name (codes "JDUPSEQ") k
stands_at is_join places.Field k = is_logical_field_keyword k
stands_at is_join places.Key k = has_name (codes "DESCEND") k || has_name (codes "ABSVAL") k || has_name (codes "SIGNED") k
stands_at is_join places.Selection k = is_selection_keyword k

-- ---- the rules

-- the next keyword of the same name; JFLD stands as often as there are pairs of fields
abbrev pub stands_again : Keyword → List Keyword → Option Keyword
stands_again k more = if has_name (codes "JFLD") k then None else first_named k.name more

-- UnknownKeyword: it doesn't stand at that place
abbrev pub unknown_faults : Bool → Keyword → List DdsFault
unknown_faults is_known k = when (not is_known) (fault_of_keyword UnknownKeyword k)

-- BadArguments: it stands there, and takes others
abbrev pub argument_faults : Bool → Keyword → List DdsFault
argument_faults is_known k = when (is_known && not (takes_its_arguments k)) (fault_of_keyword BadArguments k)

-- Conflict: it stands there twice, at the later one
abbrev pub twice_faults : Bool → Keyword → List Keyword → List DdsFault
twice_faults is_known k more = if is_known then at_keyword Conflict (stands_again k more) else []

-- what is wrong with the keywords of a place
abbrev pub logical_keyword_faults : (is_join : Bool) → KeywordPlace → List Keyword → List DdsFault
logical_keyword_faults is_join place [] = []
logical_keyword_faults is_join place (k ∷ ks) =
    unknown_faults (stands_at is_join place k) k
    ++ argument_faults (stands_at is_join place k) k
    ++ twice_faults (stands_at is_join place k) k ks
    ++ logical_keyword_faults is_join place ks

-- UNIQUE in a file without a key, or with several formats
abbrev pub refused_unique : (has_key is_multi : Bool) → List Keyword → Option Keyword
refused_unique has_key is_multi ks = if has_key && not is_multi then None else first_named (codes "UNIQUE") ks

-- Conflict: FIFO with LIFO, at the later one; UNIQUE as above
abbrev pub file_conflicts : (has_key is_multi : Bool) → List Keyword → List DdsFault
file_conflicts has_key is_multi ks = at_keyword Conflict (other_order ks) ++ at_keyword Conflict (refused_unique has_key is_multi ks)
