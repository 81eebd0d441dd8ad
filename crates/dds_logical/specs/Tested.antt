-- What of the fields that are tested decides what is wrong with the tests? (Our own.)
use Rattle.std.specs.Prelude.{ℕ, Bool, true, false, not, ◌&&◌, List, [], ◌∷◌, ◌++◌, length, flat_map, Option, Some, None, if◌then◌else◌}
use Rattle.field_types.specs.declared.kinds.FieldType.{FieldType}
use Rattle.record_fmt.specs.FieldTypes.{is_numeric}
use Rattle.std.specs.List.{filter_map}
use Rattle.std.specs.Option.{option_to_list}
use Rattle.dds_physical.below.dds_source.specs.declared.keywords.Keyword.{Keyword}
use Rattle.dds_physical.specs.Names.{name_of}
use Rattle.dds_physical.below.dds_source.specs.declared.specifications.Specification.{Specification}
use Rattle.dds_physical.below.dds_source.specs.declared.faults.DdsFault.{DdsFault}
use Rattle.file_model.specs.declared.views.ViewField.{ViewField}
use Rattle.dds_logical.specs.declared.named_fields.NamedField.{NamedField}
use Rattle.dds_logical.specs.declared.format_lines.LineKind.TheVariants as line_kinds
use Rattle.file_model.specs.declared.rules.Condition.{Condition}
use Rattle.file_model.specs.declared.rules.Choice.{Choice}
use Rattle.file_model.specs.declared.rules.Statement.{Statement}
use Rattle.dds_logical.specs.Selections.{conditions_on, tested_field, test_said, is_further, selection_line_faults, conditions_said, has_all, statement_of, further_lines}
use Rattle.dds_logical.specs.Judged.{is_of, lines_of}

abbrev pub type_of_field : Option ViewField → Option FieldType
type_of_field None = None
type_of_field (Some f) = Some f.ty

abbrev pub view_of_named : Option NamedField → Option ViewField
view_of_named None = None
view_of_named (Some f) = Some f.shown.field

-- a text and a number
abbrev pub is_other_type : FieldType → Option FieldType → Bool
is_other_type t None = false
is_other_type t (Some u) = if is_numeric t.kind then not (is_numeric u.kind) else is_numeric u.kind

-- it is a further condition, if it is there
abbrev pub is_further_line : Option Specification → Bool
is_further_line None = false
is_further_line (Some s) = is_further s.kind

-- what is wrong with a line of a format, if it is a select, an omit or a further condition
unfoldable pub selection_at : (List ℕ → Option ViewField) → Specification → List Specification → List DdsFault
selection_at find s more = if is_of line_kinds.Selection s.kind then selection_line_faults find s (lines_of line_kinds.Selection more) else []

-- the conditions of a line, if it is a select, an omit or a further condition
unfoldable pub conditions_at : (List ℕ → Option ViewField) → Specification → List Condition
conditions_at find s = if is_of line_kinds.Selection s.kind then conditions_said find s else []

-- the statement with this choice
abbrev pub statement_with : (List ℕ → Option ViewField) → Option Choice → Specification → List Specification → List Statement
statement_with find None s ss = []
statement_with find (Some choice) s ss = if has_all s then [] else statement_of find choice (s ∷ further_lines ss) ∷ []

-- the condition of a keyword of a line
unfoldable pub condition_of : (List ℕ → Option ViewField) → Specification → Keyword → List Condition
condition_of find s k = conditions_on (tested_field find (name_of s.name)) (option_to_list (test_said find k))

abbrev pub conditions_of : (List ℕ → Option ViewField) → Specification → List Keyword → List Condition
conditions_of find s ks = conditions_on (tested_field find (name_of s.name)) (filter_map (test_said find) ks)

-- the further conditions that lines begin with
abbrev pub further_conditions : (List ℕ → Option ViewField) → List Specification → List Condition
further_conditions find ss = flat_map (conditions_said find) (further_lines (lines_of line_kinds.Selection ss))

-- a select or an omit, which ends the further conditions before it
unfoldable pub ends_further : Specification → Bool
ends_further s = is_of line_kinds.Selection s.kind && not (is_further s.kind)
