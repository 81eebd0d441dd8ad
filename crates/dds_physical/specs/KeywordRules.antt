-- What is wrong with keywords.
-- (DDS for Physical and Logical Files, "Keyword entries for physical and logical files".)
use Rattle.std.specs.Prelude.{ℕ, Bool, true, false, not, ◌&&◌, ◌||◌, nat_eq, List, [], ◌∷◌, ◌++◌, Option, Some, None, is_some, is_none, if◌then◌else◌, codes}
use Rattle.std.specs.List.{list_all}
use lib.Pointwise.{pointwise}
use Rattle.ebc_text.specs.CodePage.{ebcdic_of}
use Rattle.dds_source.specs.declared.arguments.Argument.{Argument}
use Rattle.dds_source.specs.declared.arguments.Argument.TheVariants as arguments
use Rattle.dds_source.specs.declared.keywords.Keyword.{Keyword}
use Rattle.dds_source.specs.declared.faults.DdsFault.{DdsFault}
use Rattle.dds_source.specs.declared.faults.DdsCause.TheVariants.{UnknownKeyword, BadArguments, Conflict}
use Rattle.dds_source.specs.Entries.{when}
use Rattle.dds_physical.specs.declared.keyword_names.Place.{Place}
use Rattle.dds_physical.specs.Places.{fault_of_keyword, at_keyword}
use Rattle.dds_physical.specs.Keywords.{has_name, first_named, arguments_of, is_known, is_flag, is_moment_format}

-- What arguments are.

abbrev pub argument_name : Argument → Option (List ℕ)
argument_name (arguments.Name name) = Some name
argument_name (arguments.Number n) = None
argument_name (arguments.Special word) = None
argument_name (arguments.Word word) = None
argument_name (arguments.Quoted text) = None
argument_name (arguments.Hexadecimal bytes) = None

-- this word, which begins with an asterisk
abbrev pub is_special : List ℕ → Argument → Bool
is_special text (arguments.Name name) = false
is_special text (arguments.Number n) = false
is_special text (arguments.Special word) = pointwise nat_eq word text
is_special text (arguments.Word word) = false
is_special text (arguments.Quoted quoted) = false
is_special text (arguments.Hexadecimal bytes) = false

-- a text, bytes or a number
abbrev pub is_literal : Argument → Bool
is_literal (arguments.Name name) = false
is_literal (arguments.Number n) = true
is_literal (arguments.Special word) = false
is_literal (arguments.Word word) = false
is_literal (arguments.Quoted text) = true
is_literal (arguments.Hexadecimal bytes) = true

-- no literal with a character that code page 037 lacks
abbrev pub is_in_table : Argument → Bool
is_in_table (arguments.Name name) = true
is_in_table (arguments.Number n) = true
is_in_table (arguments.Special word) = true
is_in_table (arguments.Word word) = true
is_in_table (arguments.Quoted text) = list_all (λ c. is_some (ebcdic_of c)) text
is_in_table (arguments.Hexadecimal bytes) = true

-- What each keyword takes.

-- REF: a file, or a file and its format
abbrev pub is_file_reference : List Argument → Bool
is_file_reference [] = false
is_file_reference (a ∷ []) = is_some (argument_name a)
is_file_reference (a ∷ b ∷ []) = is_some (argument_name a) && is_some (argument_name b)
is_file_reference (a ∷ b ∷ c ∷ more) = false

-- REFFLD: a field, a field and its file, or a field and *SRC
abbrev pub is_field_reference : List Argument → Bool
is_field_reference [] = false
is_field_reference (a ∷ []) = is_some (argument_name a)
is_field_reference (a ∷ b ∷ []) = is_some (argument_name a) && (is_some (argument_name b) || is_special (codes "*SRC") b)
is_field_reference (a ∷ b ∷ c ∷ more) = false

-- DATFMT and TIMFMT: *ISO
abbrev pub is_iso : List Argument → Bool
is_iso [] = false
is_iso (a ∷ []) = is_special (codes "*ISO") a
is_iso (a ∷ b ∷ more) = false

-- DFT: a literal
abbrev pub is_one_literal : List Argument → Bool
is_one_literal [] = false
is_one_literal (a ∷ []) = is_literal a
is_one_literal (a ∷ b ∷ more) = false

abbrev pub fit_keyword : Keyword → List Argument → Bool
fit_keyword k args =
    if is_flag k then is_none k.arguments
    else (if has_name (codes "REF") k then is_file_reference args
    else (if has_name (codes "REFFLD") k then is_field_reference args
    else (if is_moment_format k then is_iso args
    else (if has_name (codes "DFT") k then is_one_literal args
    else true))))

abbrev pub takes_arguments : Keyword → Bool
takes_arguments k = list_all is_in_table (arguments_of k) && fit_keyword k (arguments_of k)

-- The rules.

-- the next keyword of the same name
abbrev pub repeated : Bool → Keyword → List Keyword → Option Keyword
repeated known k more = if known then first_named k.name more else None

-- UnknownKeyword: it doesn't stand at that place. BadArguments: it doesn't take them. Conflict: it stands there twice, at the later one.
abbrev pub one_keyword_faults : Place → Keyword → List Keyword → List DdsFault
one_keyword_faults place k more =
    when (not (is_known place k)) (fault_of_keyword UnknownKeyword k)
    ++ when (is_known place k && not (takes_arguments k)) (fault_of_keyword BadArguments k)
    ++ at_keyword Conflict (repeated (is_known place k) k more)

-- what is wrong with the keywords of a place
abbrev pub keyword_faults : Place → List Keyword → List DdsFault
keyword_faults place [] = []
keyword_faults place (k ∷ ks) = one_keyword_faults place k ks ++ keyword_faults place ks
