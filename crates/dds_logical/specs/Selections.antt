-- What do select and omit lines say, and what is wrong with them? (DDS for Physical and Logical Files, "Select/omit field
-- level", ALL, COMP, RANGE, VALUES. That a line without a keyword holds always is this project's own.)
use Rattle.std.specs.Prelude.{ℕ, Bool, true, false, not, ◌&&◌, ◌||◌, ◌==◌, List, [], ◌∷◌, ◌++◌, length, flat_map, Option, Some, None, is_some, is_none, if◌then◌else◌, codes}
use Rattle.std.specs.List.{filter_map, list_any, before_first}
use lib.Pointwise.{pointwise}
use Rattle.std.specs.Prelude.{nat_eq}
use Rattle.field_types.specs.declared.kinds.FieldType.{FieldType}
use Rattle.field_types.specs.declared.values.Value.{Value}
use Rattle.record_fmt.specs.FieldTypes.{is_numeric}
use Rattle.record_fmt.specs.declared.formats.Field.{Field}
use Rattle.dds_physical.below.dds_source.specs.declared.arguments.Argument.{Argument}
use Rattle.dds_physical.below.dds_source.specs.declared.faults.DdsFault.{DdsFault}
use Rattle.dds_physical.below.dds_source.specs.declared.faults.DdsCause.TheVariants.{OutOfOrder, BadArguments, NoSuchField}
use Rattle.dds_physical.below.dds_source.specs.declared.keywords.Keyword.{Keyword}
use Rattle.dds_physical.below.dds_source.specs.declared.specifications.Specification.{Specification}
use Rattle.dds_physical.below.dds_source.specs.declared.specifications.SpecificationKind.{SpecificationKind}
use Rattle.dds_physical.below.dds_source.specs.declared.specifications.SpecificationKind.TheVariants as kinds
use Rattle.dds_physical.specs.Entries.{when}
use Rattle.dds_physical.specs.Reading.{is_selection}
use Rattle.dds_physical.specs.Places.{fault_at, fault_of_keyword}
use Rattle.dds_physical.specs.Names.{name_of, field_named}
use Rattle.dds_physical.specs.Keywords.{has_name, first_named, is_there, arguments_of}
use Rattle.dds_physical.specs.KeywordRules.{argument_name}
use Rattle.dds_physical.specs.Defaults.{literal_value, is_refused}
use Rattle.file_model.specs.declared.views.FieldSource.TheVariants.{Copied}
use Rattle.file_model.specs.declared.views.ViewField.{ViewField}
use Rattle.file_model.specs.declared.rules.Relation.{Relation}
use Rattle.file_model.specs.declared.rules.Test.{Test}
use Rattle.file_model.specs.declared.rules.Test.TheVariants as tests
use Rattle.file_model.specs.declared.rules.Condition.{Condition}
use Rattle.file_model.specs.declared.rules.Choice.{Choice}
use Rattle.file_model.specs.declared.rules.Choice.TheVariants.{Select, Omit}
use Rattle.file_model.specs.declared.rules.Statement.{Statement}
use Rattle.file_model.specs.declared.rules.Rules.{Rules}
use Rattle.dds_logical.specs.declared.keyword_places.KeywordPlace.TheVariants as places
use Rattle.dds_logical.specs.KeywordArguments.{relation_of, is_compare_keyword}
use Rattle.dds_logical.specs.KeywordRules.{logical_keyword_faults}
use Rattle.dds_logical.specs.declared.named_fields.NamedField.{NamedField}

-- ---- fields

-- the field of a name in the format
abbrev pub shown_field : List ℕ → List NamedField → Option ViewField
shown_field name [] = None
shown_field name (f ∷ fs) = if pointwise nat_eq f.name name then Some f.shown.field else shown_field name fs

abbrev pub field_itself : Option Field → Option ViewField
field_itself None = None
field_itself (Some f) = Some (record { ty = f.ty; source = Copied f.offset })

abbrev pub or_else : Option ViewField → Option ViewField → Option ViewField
or_else None other = other
or_else (Some f) other = Some f

-- a field of the format or, failing that, of its base
abbrev pub field_to_test : List NamedField → List Field → List ℕ → Option ViewField
field_to_test fields base name = or_else (shown_field name fields) (field_itself (field_named name base))

abbrev pub tested_field : (List ℕ → Option ViewField) → Option (List ℕ) → Option ViewField
tested_field find None = None
tested_field find (Some name) = find name

-- ---- tests

abbrev pub compared_field : Relation → Option ViewField → Option Test
compared_field relation None = None
compared_field relation (Some f) = Some (tests.Field relation f)

abbrev pub compared_with : (List ℕ → Option ViewField) → Option Relation → Option Value → Option (List ℕ) → Option Test
compared_with find None literal name = None
compared_with find (Some relation) (Some literal) name = Some (tests.Literal relation literal)
compared_with find (Some relation) None name = compared_field relation (tested_field find name)

abbrev pub comparison_said : (List ℕ → Option ViewField) → List Argument → Option Test
comparison_said find [] = None
comparison_said find (a ∷ []) = None
comparison_said find (a ∷ b ∷ []) = compared_with find (relation_of a) (literal_value b) (argument_name b)
comparison_said find (a ∷ b ∷ c ∷ more) = None

abbrev pub range_between : List Value → Option Test
range_between [] = None
range_between (low ∷ []) = None
range_between (low ∷ high ∷ []) = Some (tests.Range low high)
range_between (low ∷ high ∷ v ∷ more) = None

-- the test of a keyword
abbrev pub test_said : (List ℕ → Option ViewField) → Keyword → Option Test
test_said find k =
    if is_compare_keyword k then comparison_said find (arguments_of k)
    else (if has_name (codes "RANGE") k then range_between (filter_map literal_value (arguments_of k))
    else (if has_name (codes "VALUES") k then Some (tests.Values (filter_map literal_value (arguments_of k)))
    else None))

-- ---- statements

abbrev pub conditions_on : Option ViewField → List Test → List Condition
conditions_on None ts = []
conditions_on (Some f) [] = []
conditions_on (Some f) (t ∷ ts) = record { field = f; test = t } ∷ conditions_on (Some f) ts

-- those of the keywords of a line
abbrev pub conditions_said : (List ℕ → Option ViewField) → Specification → List Condition
conditions_said find s = conditions_on (tested_field find (name_of s.name)) (filter_map (test_said find) s.keywords)

abbrev pub is_further : SpecificationKind → Bool
is_further kinds.Record = false
is_further kinds.Field = false
is_further kinds.Key = false
is_further kinds.Select = false
is_further kinds.Omit = false
is_further kinds.And = true
is_further kinds.Join = false

-- the further conditions that a statement begins with behind its first line
abbrev pub further_lines : List Specification → List Specification
further_lines ss = before_first (λ s. not (is_further s.kind)) ss

abbrev pub has_all : Specification → Bool
has_all s = is_there (codes "ALL") s.keywords

abbrev pub statement_of : (List ℕ → Option ViewField) → Choice → List Specification → Statement
statement_of find choice ss = record { choice = choice; conditions = flat_map (conditions_said find) ss }

-- the statement that a line begins; ALL is none
abbrev pub statement_begun : (List ℕ → Option ViewField) → SpecificationKind → Specification → List Specification → List Statement
statement_begun find kinds.Record s ss = []
statement_begun find kinds.Field s ss = []
statement_begun find kinds.Key s ss = []
statement_begun find kinds.Select s ss = if has_all s then [] else statement_of find Select (s ∷ further_lines ss) ∷ []
statement_begun find kinds.Omit s ss = if has_all s then [] else statement_of find Omit (s ∷ further_lines ss) ∷ []
statement_begun find kinds.And s ss = []
statement_begun find kinds.Join s ss = []

abbrev pub statements_said : (List ℕ → Option ViewField) → List Specification → List Statement
statements_said find [] = []
statements_said find (s ∷ ss) = statement_begun find s.kind s ss ++ statements_said find ss

abbrev pub choice_of : SpecificationKind → Option Choice
choice_of kinds.Record = None
choice_of kinds.Field = None
choice_of kinds.Key = None
choice_of kinds.Select = Some Select
choice_of kinds.Omit = Some Omit
choice_of kinds.And = None
choice_of kinds.Join = None

-- what ALL says
abbrev pub all_said : List Specification → Option Choice
all_said [] = None
all_said (s ∷ ss) = if has_all s then choice_of s.kind else all_said ss

abbrev pub rules_said : (List ℕ → Option ViewField) → List Specification → Rules
rules_said find ss = record { statements = statements_said find ss; all = all_said ss }

-- ---- what is wrong with them

-- NoSuchField: neither the format nor its base has the field
abbrev pub no_field_faults : (List ℕ → Option ViewField) → Specification → List DdsFault
no_field_faults find s = when (is_some (name_of s.name) && is_none (tested_field find (name_of s.name))) (fault_at s 19 NoSuchField)

-- BadArguments: a literal that the field can't hold
abbrev pub literal_faults : FieldType → Keyword → List DdsFault
literal_faults t k = when (list_any (λ a. is_refused t (literal_value a)) (arguments_of k)) (fault_of_keyword BadArguments k)

-- a text and a number
abbrev pub is_other_kind : FieldType → Option ViewField → Bool
is_other_kind t None = false
is_other_kind t (Some f) = if is_numeric t.kind then not (is_numeric f.ty.kind) else is_numeric f.ty.kind

-- the field that COMP compares with
abbrev pub other_name : List Argument → Option (List ℕ)
other_name [] = None
other_name (a ∷ []) = None
other_name (a ∷ b ∷ more) = argument_name b

-- NoSuchField: COMP with a field that isn't there
abbrev pub other_field_faults : (List ℕ → Option ViewField) → Keyword → List DdsFault
other_field_faults find k =
    when (is_compare_keyword k && is_some (other_name (arguments_of k)) && is_none (tested_field find (other_name (arguments_of k)))) (fault_of_keyword NoSuchField k)

-- BadArguments: COMP with a field of another kind of value
abbrev pub other_kind_faults : (List ℕ → Option ViewField) → FieldType → Keyword → List DdsFault
other_kind_faults find t k = when (is_compare_keyword k && is_other_kind t (tested_field find (other_name (arguments_of k)))) (fault_of_keyword BadArguments k)

abbrev pub test_faults : (List ℕ → Option ViewField) → FieldType → Keyword → List DdsFault
test_faults find t k = literal_faults t k ++ other_kind_faults find t k

abbrev pub tests_faults : (List ℕ → Option ViewField) → Option ViewField → List Keyword → List DdsFault
tests_faults find None ks = []
tests_faults find (Some f) ks = flat_map (test_faults find f.ty) ks

-- another keyword than ALL
abbrev pub has_other : List Keyword → Bool
has_other ks = list_any (λ k. not (has_name (codes "ALL") k)) ks

-- a line with ALL has a name or another keyword, is a further condition, or has one
abbrev pub is_all_not_alone : Specification → List Specification → Bool
is_all_not_alone s ss = is_some (name_of s.name) || has_other s.keywords || is_further s.kind || not (length (further_lines ss) == 0)

-- OutOfOrder: ALL before the last statement. BadArguments: ALL not alone.
abbrev pub all_faults : Specification → List Specification → Option Keyword → List DdsFault
all_faults s ss None = []
all_faults s ss (Some k) =
    when (list_any (λ other. is_selection other.kind) ss) (fault_of_keyword OutOfOrder k)
    ++ when (is_all_not_alone s ss) (fault_of_keyword BadArguments k)

-- what is wrong with a line, before others
abbrev pub selection_line_faults : (List ℕ → Option ViewField) → Specification → List Specification → List DdsFault
selection_line_faults find s ss =
    no_field_faults find s
    ++ logical_keyword_faults false places.Selection s.keywords
    ++ tests_faults find (tested_field find (name_of s.name)) s.keywords
    ++ flat_map (other_field_faults find) s.keywords
    ++ all_faults s ss (first_named (codes "ALL") s.keywords)

-- the select and omit lines of a format
abbrev pub selection_lines_faults : (List ℕ → Option ViewField) → List Specification → List DdsFault
selection_lines_faults find [] = []
selection_lines_faults find (s ∷ ss) = selection_line_faults find s ss ++ selection_lines_faults find ss
