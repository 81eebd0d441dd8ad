-- How two values of a script compare. (CL, relational expressions.)
use Rattle.std.specs.Prelude.{ℕ, ◌-◌, List, ◌++◌, length, replicate, max, Option, Some, None}
use Rattle.std.specs.declared.cmp.Ordering.{Ordering}
use Rattle.std.specs.Ordering.{int_cmp, nat_cmp}
use Rattle.std.specs.Cmp.Lexicographic.{slice_cmp}
use Rattle.field_types.specs.declared.values.Dec.{Dec}
use Rattle.field_types.specs.declared.values.Value.{Value}
use Rattle.field_types.specs.declared.values.Value.TheVariants.{Chars, Number}
use Rattle.script_numbers.specs.Arithmetic.{units_at}
use Rattle.script_numbers.specs.declared.order.TheConstants.{BLANK}

-- numbers by value: in units of the larger scale
abbrev pub number_order : Dec → Dec → Ordering
number_order left right =
    let scale = max left.scale right.scale in
    int_cmp (units_at scale left) (units_at scale right)

-- a text with blanks behind it, up to a length
abbrev pub filled : ℕ → List ℕ → List ℕ
filled size text = text ++ replicate (size - length text) BLANK

-- texts byte by byte, with blanks behind the shorter
unfoldable pub text_order : List ℕ → List ℕ → Ordering
text_order left right = slice_cmp nat_cmp (filled (length right) left) (filled (length left) right)

-- a number and a text don't compare
abbrev pub order_of : Value → Value → Option Ordering
order_of (Number left) (Number right) = Some (number_order left right)
order_of (Chars left) (Chars right) = Some (text_order left right)
order_of (Number left) (Chars right) = None
order_of (Chars left) (Number right) = None
