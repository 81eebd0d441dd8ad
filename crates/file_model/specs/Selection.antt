-- Which records does a file select? (DDS for Physical and Logical Files, select/omit field level: "COMP", "RANGE",
-- "VALUES", "ALL".)
use Rattle.std.specs.Prelude.{ℕ, Bool, true, false, not, ◌&&◌, List, [], ◌∷◌, length, Option, Some, None, if◌then◌else◌}
use Rattle.std.specs.List.{list_all, list_any}
use Rattle.std.specs.declared.cmp.Ordering.{Ordering}
use Rattle.std.specs.declared.cmp.Ordering.TheVariants.{Less, Greater}
use Rattle.std.specs.Ordering.{nat_cmp, is_lt, is_le, is_gt, is_ge, is_eq}
use Rattle.std.specs.Cmp.Lexicographic.{slice_cmp}
use Rattle.decimal_order.below.field_types.specs.declared.values.Value.{Value}
use Rattle.decimal_order.below.field_types.specs.declared.values.Value.TheVariants.{Chars, Number}
use Rattle.record_fmt.specs.FieldBytes.{filled}
use Rattle.decimal_order.specs.DecimalOrder.{compare_numbers}
use Rattle.file_model.specs.declared.rules.Relation.{Relation}
use Rattle.file_model.specs.declared.rules.Relation.TheVariants.{Equals, Differs, Below, AtMost, Above, AtLeast}
use Rattle.file_model.specs.declared.rules.Test.{Test}
use Rattle.file_model.specs.declared.rules.Test.TheVariants as tests
use Rattle.file_model.specs.declared.rules.Condition.{Condition}
use Rattle.file_model.specs.declared.rules.Choice.{Choice}
use Rattle.file_model.specs.declared.rules.Choice.TheVariants.{Select, Omit}
use Rattle.file_model.specs.declared.rules.Statement.{Statement}
use Rattle.file_model.specs.declared.rules.Rules.{Rules}
use Rattle.file_model.specs.Views.{field_value}

-- texts by their bytes, the shorter one filled with blanks; numbers by value
abbrev pub compare_filled : Value → Value → Ordering
compare_filled (Chars a) (Chars b) = slice_cmp nat_cmp (filled (length b) a) (filled (length a) b)
compare_filled (Number a) (Number b) = compare_numbers a b
compare_filled (Chars a) (Number b) = Less
compare_filled (Number a) (Chars b) = Greater

abbrev pub stands_in : Relation → Ordering → Bool
stands_in Equals order = is_eq order
stands_in Differs order = not (is_eq order)
stands_in Below order = is_lt order
stands_in AtMost order = is_le order
stands_in Above order = is_gt order
stands_in AtLeast order = is_ge order

-- the relation holds between two values
abbrev pub is_related : Relation → Option Value → Option Value → Bool
is_related relation (Some v) (Some w) = stands_in relation (compare_filled v w)
is_related relation (Some v) None = false
is_related relation None w = false

-- a field's value passes the test in this record
abbrev pub passes : List ℕ → Option Value → Test → Bool
passes image v (tests.Literal relation literal) = is_related relation v (Some literal)
passes image v (tests.Field relation other) = is_related relation v (field_value image other)
passes image v (tests.Range low high) = is_related AtLeast v (Some low) && is_related AtMost v (Some high)
passes image v (tests.Values values) = list_any (λ value. is_related Equals v (Some value)) values

abbrev pub holds : List ℕ → Condition → Bool
holds image condition = passes image (field_value image condition.field) condition.test

abbrev pub is_chosen : Choice → Bool
is_chosen Select = true
is_chosen Omit = false

-- what is chosen for the records that no statement holds of: by ALL, or the opposite of the last statement
abbrev pub rest_is_selected : Option Choice → (last : Choice) → Bool
rest_is_selected (Some all) last = is_chosen all
rest_is_selected None last = not (is_chosen last)

-- the first statement whose conditions all hold decides; the last choice is that of the statement before
abbrev pub selected_by : Option Choice → (last : Choice) → List Statement → List ℕ → Bool
selected_by all last [] image = rest_is_selected all last
selected_by all last (statement ∷ statements) image =
    if list_all (holds image) statement.conditions then is_chosen statement.choice
    else selected_by all statement.choice statements image

-- the record is one that the file has. Without statements all records are: the rest after nothing was omitted
abbrev pub selects : Rules → List ℕ → Bool
selects rules image = selected_by rules.all Omit rules.statements image
