-- Values in a parameter's parentheses: literals and variables, alone, in lists, in expressions and in conditions.
-- (CL reference, "Expressions"; which variables stand where is our own.)
use Rattle.std.specs.Prelude.{ℕ, ◌-◌, ◌^◌, nat_le, if◌then◌else◌, Option, Some, None, List, codes, option_map}
use Rattle.std.specs.Option.{option_map_or}
use Rattle.field_types.specs.SystemName.{is_name}
use Rattle.script_numbers.specs.Arithmetic.{whole_of}
use Rattle.job_language.specs.declared.operands.Operand.{Operand}
use Rattle.job_language.specs.declared.operands.Operand.TheVariants.{Literal, Variable}
use Rattle.job_language.specs.declared.operands.Operator.{Operator}
use Rattle.job_language.specs.declared.operands.Operator.TheVariants.{Plus, Minus, Times}
use Rattle.job_language.specs.declared.operands.Expression.{Expression}
use Rattle.job_language.specs.declared.operands.Expression.TheVariants.{Single, Calculation}
use Rattle.job_language.specs.declared.operands.Relation.{Relation}
use Rattle.job_language.specs.declared.operands.Relation.TheVariants.{Equal, NotEqual, Less, LessOrEqual, Greater, GreaterOrEqual}
use Rattle.job_language.specs.declared.operands.Condition.{Condition}
use Rattle.job_language.specs.declared.operands.NumberOperand.{NumberOperand}
use Rattle.job_language.specs.declared.operands.NumberOperand.TheVariants as number
use Rattle.job_language.specs.declared.operands.SequenceOperand.{SequenceOperand}
use Rattle.job_language.specs.declared.operands.SequenceOperand.TheVariants as sequence
use Rattle.statement_reader.specs.Commands.{is_word}
use Rattle.statement_reader.specs.Lists.{let_some, each, not_empty}
use Rattle.statement_reader.specs.Literals.{number_of, literal_of}
use Rattle.statement_reader.specs.Parameters.{behind}
use Rattle.statement_reader.specs.Variables.{number_in}
use Rattle.statement_reader.specs.Words.{only, three}

-- the number of a variable that is declared, by what stands behind its &
unfoldable pub declared : List (List ℕ) → List ℕ → Option ℕ
declared variables name = if is_name name then number_in variables name else None

abbrev pub variable_of : List (List ℕ) → List ℕ → Option ℕ
variable_of variables word = let_some (behind (codes "&") word) (declared variables)

-- a variable, or a literal
unfoldable pub operand_of : List (List ℕ) → List ℕ → Option Operand
operand_of variables word =
    option_map_or (λ name. option_map Variable (declared variables name)) (behind (codes "&") word) (option_map Literal (literal_of word))

-- KEY has one value or more
unfoldable pub operands_of : List (List ℕ) → List (List ℕ) → Option (List Operand)
operands_of variables words = not_empty (each (operand_of variables) words)

-- a value of VAL, or *N
unfoldable pub given_operand : List (List ℕ) → List ℕ → Option (Option Operand)
given_operand variables word = if is_word (codes "*N") word then Some None else option_map Some (operand_of variables word)

-- VAL has one value or more
unfoldable pub given_operands : List (List ℕ) → List (List ℕ) → Option (List (Option Operand))
given_operands variables words = not_empty (each (given_operand variables) words)

-- TO has one variable or more
unfoldable pub targets_of : List (List ℕ) → List (List ℕ) → Option (List ℕ)
targets_of variables words = not_empty (each (variable_of variables) words)

abbrev pub operator_of : List ℕ → Option Operator
operator_of word =
    if is_word (codes "+") word then Some Plus
    else (if is_word (codes "-") word then Some Minus else (if is_word (codes "*") word then Some Times else None))

-- x, or x and y with an operator between them
abbrev pub calculation_of : List (List ℕ) → List ℕ → List ℕ → List ℕ → Option Expression
calculation_of variables first sign second =
    let_some (operator_of sign) (λ operator.
    let_some (operand_of variables first) (λ left.
    let_some (operand_of variables second) (λ right.
    Some (Calculation left operator right))))

unfoldable pub expression_of : List (List ℕ) → List (List ℕ) → Option Expression
expression_of variables words =
    option_map_or (λ parts. calculation_of variables parts.0 parts.1 parts.2) (three words) (let_some (only words) (λ word. option_map Single (operand_of variables word)))

abbrev pub relation_of : List ℕ → Option Relation
relation_of word =
    if is_word (codes "*EQ") word then Some Equal
    else (if is_word (codes "*NE") word then Some NotEqual
    else (if is_word (codes "*LT") word then Some Less
    else (if is_word (codes "*LE") word then Some LessOrEqual
    else (if is_word (codes "*GT") word then Some Greater
    else (if is_word (codes "*GE") word then Some GreaterOrEqual else None)))))

-- x op y
abbrev pub comparison_of : List (List ℕ) → List ℕ → List ℕ → List ℕ → Option Condition
comparison_of variables first sign second =
    let_some (relation_of sign) (λ relation.
    let_some (operand_of variables first) (λ left.
    let_some (operand_of variables second) (λ right.
    Some (record { left = left; relation = relation; right = right }))))

unfoldable pub condition_of : List (List ℕ) → List (List ℕ) → Option Condition
condition_of variables words = let_some (three words) (λ parts. comparison_of variables parts.0 parts.1 parts.2)

-- the number that a literal is, where it is whole and from 0 up to this one
abbrev pub at_most : ℕ → ℕ → Option ℕ
at_most most whole = if nat_le whole most then Some whole else None

unfoldable pub whole_up_to : ℕ → List ℕ → Option ℕ
whole_up_to most word =
    let_some (number_of word) (λ number.
    let_some (whole_of number) (at_most most))

-- RRN and RCV
unfoldable pub number_operand : List (List ℕ) → List ℕ → Option NumberOperand
number_operand variables word =
    option_map_or (λ name. option_map number.Variable (declared variables name)) (behind (codes "&") word) (option_map number.Literal (whole_up_to (2 ^ 32 - 1) word))

-- FROMENT and TOENT
unfoldable pub sequence_operand : List (List ℕ) → List ℕ → Option SequenceOperand
sequence_operand variables word =
    option_map_or (λ name. option_map sequence.Variable (declared variables name)) (behind (codes "&") word) (option_map sequence.Literal (whole_up_to (2 ^ 64 - 1) word))
