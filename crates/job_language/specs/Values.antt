-- What operands, expressions and conditions give with the variables' values. `None`: there is no value, and the job ends.
-- (CL, arithmetic and relational expressions.)
use Rattle.std.specs.Prelude.{Bool, Option, Some, None, List, slice_get, option_map}
use Rattle.std.specs.Option.{option_and_then}
use Rattle.std.specs.declared.cmp.Ordering.{Ordering}
use Rattle.std.specs.Ordering.{is_eq, is_ne, is_lt, is_le, is_gt, is_ge}
use Rattle.field_types.specs.declared.values.Dec.{Dec}
use Rattle.field_types.specs.declared.values.Value.{Value}
use Rattle.field_types.specs.declared.values.Value.TheVariants.{Chars, Number}
use Rattle.script_numbers.specs.Arithmetic.{sum_of, difference_of, product_of}
use Rattle.script_numbers.specs.Order.{order_of}
use Rattle.job_language.specs.declared.operands.Operand.{Operand}
use Rattle.job_language.specs.declared.operands.Operand.TheVariants.{Literal, Variable}
use Rattle.job_language.specs.declared.operands.Operator.{Operator}
use Rattle.job_language.specs.declared.operands.Operator.TheVariants.{Plus, Minus, Times}
use Rattle.job_language.specs.declared.operands.Expression.{Expression}
use Rattle.job_language.specs.declared.operands.Expression.TheVariants.{Single, Calculation}
use Rattle.job_language.specs.declared.operands.Relation.{Relation}
use Rattle.job_language.specs.declared.operands.Relation.TheVariants.{Equal, NotEqual, Less, LessOrEqual, Greater, GreaterOrEqual}
use Rattle.job_language.specs.declared.operands.Condition.{Condition}

-- what two options give together: nothing where one of them is nothing
abbrev pub both : {A B C : Type 0} → (A → B → Option C) → Option A → Option B → Option C
both f None right = None
both f (Some left) None = None
both f (Some left) (Some right) = f left right

-- the literal, or the variable's value
abbrev pub value_of : List Value → Operand → Option Value
value_of values (Literal value) = Some value
value_of values (Variable number) = slice_get values number

-- a text is no number
abbrev pub as_number : Value → Option Dec
as_number (Number number) = Some number
as_number (Chars text) = None

abbrev pub number_of_operand : List Value → Operand → Option Dec
number_of_operand values operand = option_and_then as_number (value_of values operand)

abbrev pub calculated : Operator → Dec → Dec → Option Dec
calculated Plus = sum_of
calculated Minus = difference_of
calculated Times = product_of

abbrev pub result_of : List Value → Expression → Option Value
result_of values (Single operand) = value_of values operand
result_of values (Calculation left operator right) =
    option_map Number (both (calculated operator) (number_of_operand values left) (number_of_operand values right))

abbrev pub holds : Relation → Ordering → Bool
holds Equal = is_eq
holds NotEqual = is_ne
holds Less = is_lt
holds LessOrEqual = is_le
holds Greater = is_gt
holds GreaterOrEqual = is_ge

-- whether the condition holds; a number and a text don't compare
abbrev pub truth_of : List Value → Condition → Option Bool
truth_of values condition =
    option_map (holds condition.relation) (both order_of (value_of values condition.left) (value_of values condition.right))
