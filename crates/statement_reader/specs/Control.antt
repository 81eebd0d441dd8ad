-- The statements that are no requests: declarations, changes of variables, branches, loops and MONMSG.
-- (CL reference, DCL, CHGVAR, IF, ELSE, DOWHILE, ENDDO, GOTO, MONMSG and RETURN: a part of what each may have.)
use Rattle.std.specs.Prelude.{ℕ, Bool, false, if◌then◌else◌, Option, Some, None, List, [], ◌∷◌, codes, option_map}
use Rattle.std.specs.Option.{option_map_or}
use Rattle.field_types.specs.declared.values.Value.{Value}
use Rattle.job_language.specs.declared.operands.Condition.{Condition}
use Rattle.job_language.specs.declared.operands.Expression.{Expression}
use Rattle.job_language.specs.declared.refusals.Refusal.{Refusal}
use Rattle.job_language.specs.declared.refusals.Monitored.{Monitored}
use Rattle.job_language.specs.declared.refusals.Monitored.TheVariants.{Any, Named}
use Rattle.statement_syntax.specs.declared.Phrase.{Phrase}
use Rattle.statement_syntax.specs.declared.Phrase.TheVariants.{Declare, ChangeVariable, IfGoto, IfDo, Else, DoWhile, Goto, Monitor}
use Rattle.statement_reader.specs.Arguments.{name_of, name_in, word_in, stands}
use Rattle.statement_reader.specs.Commands.{is_word}
use Rattle.statement_reader.specs.Lists.{let_some, each, not_empty}
use Rattle.statement_reader.specs.Literals.{literal_of}
use Rattle.statement_reader.specs.Operands.{variable_of, expression_of, condition_of}
use Rattle.statement_reader.specs.Parameters.{behind, given, has_only}
use Rattle.statement_reader.specs.RefusalNames.{refusal_named}
use Rattle.statement_reader.specs.Words.{words, only}
use Rattle.statement_reader.specs.declared.parameters.Parameter.{Parameter}
use Rattle.statement_reader.specs.declared.parameters.Parameter.TheVariants as parameter

-- the label of GOTO CMDLBL(l), by the words
abbrev pub label_of : List (List ℕ) → Option (List ℕ)
label_of statement = if has_only (parameter.Label ∷ []) statement then name_in parameter.Label statement else None

unfoldable pub jump_of : List (List ℕ) → Option (List ℕ)
jump_of [] = None
jump_of (verb ∷ statement) = if is_word (codes "GOTO") verb then label_of statement else None

-- GOTO CMDLBL(l) in the parentheses of THEN or EXEC
unfoldable pub jump_in : Parameter → List (List ℕ) → Option (List ℕ)
jump_in parameter statement = let_some (given parameter statement) (λ text. jump_of (words text))

-- whether DO stands alone in the parentheses of THEN or CMD
unfoldable pub has_do : Parameter → List (List ℕ) → Bool
has_do parameter statement = option_map_or (is_word (codes "DO")) (word_in parameter statement) false

unfoldable pub condition_in : List (List ℕ) → List (List ℕ) → Option Condition
condition_in variables statement = let_some (given parameter.Condition statement) (λ text. condition_of variables (words text))

-- the refusals of MSGID: *ANY alone, or one name or more
abbrev pub is_any : List (List ℕ) → Bool
is_any words = option_map_or (is_word (codes "*ANY")) (only words) false

unfoldable pub named_of : List (List ℕ) → Option (List Refusal)
named_of words = not_empty (each refusal_named words)

unfoldable pub monitored_of : List (List ℕ) → Option Monitored
monitored_of words = if is_any words then Some Any else option_map Named (named_of words)

unfoldable pub monitored_in : List (List ℕ) → Option Monitored
monitored_in statement = let_some (given parameter.Message statement) (λ text. monitored_of (words text))

-- the label of EXEC, which may be left out
unfoldable pub execute_in : List (List ℕ) → Option (Option (List ℕ))
execute_in statement = if stands parameter.Execute statement then option_map Some (jump_in parameter.Execute statement) else Some None

-- the name that VAR declares
unfoldable pub new_variable : List (List ℕ) → Option (List ℕ)
new_variable statement =
    let_some (word_in parameter.Variable statement) (λ word.
    let_some (behind (codes "&") word) name_of)

-- the variable that VAR changes
unfoldable pub variable_in : List (List ℕ) → List (List ℕ) → Option ℕ
variable_in variables statement = let_some (word_in parameter.Variable statement) (variable_of variables)

unfoldable pub literal_in : List (List ℕ) → Option Value
literal_in statement = let_some (word_in parameter.Value statement) literal_of

unfoldable pub expression_in : List (List ℕ) → List (List ℕ) → Option Expression
expression_in variables statement = let_some (given parameter.Value statement) (λ text. expression_of variables (words text))

-- each statement, by its parameters
unfoldable pub declaration : List (List ℕ) → Option Phrase
declaration statement =
    let_some (new_variable statement) (λ variable.
    let_some (literal_in statement) (λ value.
    Some (Declare variable value)))

unfoldable pub change : List (List ℕ) → List (List ℕ) → Option Phrase
change variables statement =
    let_some (variable_in variables statement) (λ variable.
    let_some (expression_in variables statement) (λ value.
    Some (ChangeVariable variable value)))

unfoldable pub branch : List (List ℕ) → List (List ℕ) → Option Phrase
branch variables statement =
    let_some (jump_in parameter.Then statement) (λ label.
    let_some (condition_in variables statement) (λ condition.
    Some (IfGoto condition label)))

abbrev pub block : List (List ℕ) → List (List ℕ) → Option Phrase
block variables statement = let_some (condition_in variables statement) (λ condition. Some (IfDo condition))

unfoldable pub choice_of_way : List (List ℕ) → List (List ℕ) → Option Phrase
choice_of_way variables statement = if has_do parameter.Then statement then block variables statement else branch variables statement

unfoldable pub otherwise : List (List ℕ) → Option Phrase
otherwise statement = if has_do parameter.Command statement then Some Else else None

unfoldable pub while_loop : List (List ℕ) → List (List ℕ) → Option Phrase
while_loop variables statement = let_some (condition_in variables statement) (λ condition. Some (DoWhile condition))

unfoldable pub jump : List (List ℕ) → Option Phrase
jump statement = let_some (name_in parameter.Label statement) (λ label. Some (Goto label))

unfoldable pub monitor : List (List ℕ) → Option Phrase
monitor statement =
    let_some (execute_in statement) (λ label.
    let_some (monitored_in statement) (λ takes.
    Some (Monitor takes label)))
