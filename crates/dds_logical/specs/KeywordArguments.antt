-- Which arguments does each keyword of a logical file take? (DDS for Physical and Logical Files, "Keyword entries for
-- physical and logical files". That two files at least and eight at most are joined is this project's own.)
use Rattle.std.specs.Prelude.{ℕ, Bool, true, false, ◌&&◌, ◌||◌, ◌==◌, nat_le, List, [], ◌∷◌, length, Option, Some, None, is_some, is_none, if◌then◌else◌, codes, ℤ, pos, negsuc}
use Rattle.std.specs.List.{list_all, filter_map}
use Rattle.field_types.specs.declared.values.Dec.{Dec}
use Rattle.dds_physical.below.dds_source.specs.declared.arguments.Argument.{Argument}
use Rattle.dds_physical.below.dds_source.specs.declared.arguments.Argument.TheVariants as arguments
use Rattle.dds_physical.below.dds_source.specs.declared.keywords.Keyword.{Keyword}
use Rattle.dds_physical.specs.Keywords.{has_name, arguments_of, is_flag}
use Rattle.dds_physical.specs.KeywordRules.{argument_name, is_special, is_literal, is_in_table}
use Rattle.file_model.specs.declared.rules.Relation.{Relation}
use Rattle.file_model.specs.declared.rules.Relation.TheVariants.{Equals, Differs, Below, AtMost, Above, AtLeast}
use Rattle.dds_logical.specs.declared.limits.TheConstants.{MOST_JOINED}
use lib.Pointwise.{pointwise}
use Rattle.std.specs.Prelude.{nat_eq}

-- ---- numbers and names

abbrev pub magnitude : ℤ → Option ℕ
magnitude (pos n) = Some n
magnitude (negsuc n) = None

-- a number without a sign and without decimals
abbrev pub whole_of : Dec → Option ℕ
whole_of n = if n.scale == 0 then magnitude n.units else None

abbrev pub whole_number : Argument → Option ℕ
whole_number (arguments.Name name) = None
whole_number (arguments.Number n) = whole_of n
whole_number (arguments.Special word) = None
whole_number (arguments.Word word) = None
whole_number (arguments.Quoted text) = None
whole_number (arguments.Hexadecimal bytes) = None

abbrev pub is_file_or_field : Argument → Bool
is_file_or_field a = is_some (argument_name a)

-- the names among arguments
abbrev pub names_among : List Argument → List (List ℕ)
names_among args = filter_map argument_name args

-- as many names, at least so many and at most so many
abbrev pub are_names : (least most : ℕ) → List Argument → Bool
are_names least most args = list_all is_file_or_field args && nat_le least (length args) && nat_le (length args) most

-- ---- relations

-- what COMP begins with
abbrev pub relation_named : List ℕ → Option Relation
relation_named name =
    if pointwise nat_eq name (codes "EQ") then Some Equals
    else (if pointwise nat_eq name (codes "NE") then Some Differs
    else (if pointwise nat_eq name (codes "LT") then Some Below
    else (if pointwise nat_eq name (codes "NL") then Some AtLeast
    else (if pointwise nat_eq name (codes "GT") then Some Above
    else (if pointwise nat_eq name (codes "NG") then Some AtMost
    else (if pointwise nat_eq name (codes "LE") then Some AtMost
    else (if pointwise nat_eq name (codes "GE") then Some AtLeast
    else None)))))))

abbrev pub relation_or_none : Option (List ℕ) → Option Relation
relation_or_none None = None
relation_or_none (Some name) = relation_named name

abbrev pub relation_of : Argument → Option Relation
relation_of a = relation_or_none (argument_name a)

-- ---- what each keyword takes

-- SST: a field and where its part begins, and perhaps how long it is
abbrev pub is_part : List Argument → Bool
is_part [] = false
is_part (a ∷ []) = false
is_part (a ∷ b ∷ []) = is_file_or_field a && is_some (whole_number b)
is_part (a ∷ b ∷ c ∷ []) = is_file_or_field a && is_some (whole_number b) && is_some (whole_number c)
is_part (a ∷ b ∷ c ∷ d ∷ more) = false

-- JREF: a number or a file
abbrev pub is_place_or_file : List Argument → Bool
is_place_or_file [] = false
is_place_or_file (a ∷ []) = is_file_or_field a || is_some (whole_number a)
is_place_or_file (a ∷ b ∷ more) = false

-- JDUPSEQ: a field, and perhaps *DESCEND
abbrev pub is_sequence : List Argument → Bool
is_sequence [] = false
is_sequence (a ∷ []) = is_file_or_field a
is_sequence (a ∷ b ∷ []) = is_file_or_field a && is_special (codes "*DESCEND") b
is_sequence (a ∷ b ∷ c ∷ more) = false

-- COMP: a relation, and a literal or a field
abbrev pub is_comparison : List Argument → Bool
is_comparison [] = false
is_comparison (a ∷ []) = false
is_comparison (a ∷ b ∷ []) = is_some (relation_of a) && (is_literal b || is_file_or_field b)
is_comparison (a ∷ b ∷ c ∷ more) = false

-- RANGE: two literals
abbrev pub is_range : List Argument → Bool
is_range args = list_all is_literal args && (length args == 2)

-- VALUES: literals
abbrev pub are_values : List Argument → Bool
are_values args = list_all is_literal args && nat_le 1 (length args)

abbrev pub is_logical_flag : Keyword → Bool
is_logical_flag k = is_flag k || has_name (codes "DYNSLT") k || has_name (codes "JDFTVAL") k || has_name (codes "ALL") k

-- COMP, or CMP, which is the same
abbrev pub is_compare_keyword : Keyword → Bool
is_compare_keyword k = has_name (codes "COMP") k || has_name (codes "CMP") k

-- of those of joins
abbrev pub fit_join_keyword : Keyword → List Argument → Bool
fit_join_keyword k args =
    if has_name (codes "JFILE") k then are_names 2 MOST_JOINED args
    else (if has_name (codes "JOIN") k || has_name (codes "JFLD") k then are_names 2 2 args
    else (if has_name (codes "JDUPSEQ") k then is_sequence args
    else (if has_name (codes "JREF") k then is_place_or_file args
    else true)))

-- of those of selects and omits, and then of joins; texts and editing take any
abbrev pub fit_selection_keyword : Keyword → List Argument → Bool
fit_selection_keyword k args =
    if is_compare_keyword k then is_comparison args
    else (if has_name (codes "RANGE") k then is_range args
    else (if has_name (codes "VALUES") k then are_values args
    else fit_join_keyword k args))

abbrev pub fit_logical_keyword : Keyword → List Argument → Bool
fit_logical_keyword k args =
    if is_logical_flag k then is_none k.arguments
    else (if has_name (codes "PFILE") k || has_name (codes "RENAME") k then are_names 1 1 args
    else (if has_name (codes "CONCAT") k then are_names 1 (length args) args
    else (if has_name (codes "SST") k then is_part args
    else fit_selection_keyword k args)))

-- it takes its arguments, and code page 037 has their characters
abbrev pub takes_its_arguments : Keyword → Bool
takes_its_arguments k = list_all is_in_table (arguments_of k) && fit_logical_keyword k (arguments_of k)
