-- Which keywords a physical file has, and where each may stand.
-- (DDS for Physical and Logical Files, "Keyword entries for physical and logical files".)
use Rattle.std.specs.Prelude.{ℕ, Bool, ◌||◌, nat_eq, List, [], ◌∷◌, Option, Some, None, is_some, if◌then◌else◌, codes}
use lib.Pointwise.{pointwise}
use Rattle.dds_source.specs.declared.keywords.Keyword.{Keyword}
use Rattle.dds_source.specs.declared.arguments.Argument.{Argument}
use Rattle.dds_physical.specs.declared.keyword_names.Place.{Place}
use Rattle.dds_physical.specs.declared.keyword_names.Place.TheVariants as places

abbrev pub has_name : List ℕ → Keyword → Bool
has_name name k = pointwise nat_eq k.name name

-- the first keyword of a name
abbrev pub first_named : List ℕ → List Keyword → Option Keyword
first_named name [] = None
first_named name (k ∷ ks) = if has_name name k then Some k else first_named name ks

-- there is one of that name
abbrev pub is_there : List ℕ → List Keyword → Bool
is_there name ks = is_some (first_named name ks)

-- what stands in its parentheses
abbrev pub arguments_or_none : Option (List Argument) → List Argument
arguments_or_none None = []
arguments_or_none (Some arguments) = arguments

abbrev pub arguments_of : Keyword → List Argument
arguments_of k = arguments_or_none k.arguments

-- texts and column headings
abbrev pub is_heading : Keyword → Bool
is_heading k = has_name (codes "TEXT") k || has_name (codes "COLHDG") k

-- what programs that show a field use
abbrev pub is_edit : Keyword → Bool
is_edit k = has_name (codes "EDTCDE") k || has_name (codes "EDTWRD") k || has_name (codes "CHECK") k

-- validity of what is entered, which the file itself doesn't enforce
abbrev pub is_comparison : Keyword → Bool
is_comparison k = has_name (codes "COMP") k || has_name (codes "CMP") k || has_name (codes "RANGE") k || has_name (codes "VALUES") k

-- the form of dates and of times
abbrev pub is_moment_format : Keyword → Bool
is_moment_format k = has_name (codes "DATFMT") k || has_name (codes "TIMFMT") k

abbrev pub is_field_keyword : Keyword → Bool
is_field_keyword k = is_heading k || is_edit k || is_comparison k || is_moment_format k || has_name (codes "DFT") k || has_name (codes "REFFLD") k

-- the keywords of each place
abbrev pub is_known : Place → Keyword → Bool
is_known places.File k = has_name (codes "UNIQUE") k || has_name (codes "FIFO") k || has_name (codes "LIFO") k || has_name (codes "REF") k
is_known places.Record k = has_name (codes "TEXT") k
is_known places.Field k = is_field_keyword k
is_known places.Key k = has_name (codes "DESCEND") k || has_name (codes "ABSVAL") k || has_name (codes "SIGNED") k

-- they take no arguments
abbrev pub is_flag : Keyword → Bool
is_flag k = has_name (codes "UNIQUE") k || has_name (codes "FIFO") k || has_name (codes "LIFO") k || is_known places.Key k
