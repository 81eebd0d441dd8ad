-- What each statement of a job is to its script. (CL programs: DCL, MONMSG and DO groups; places are our own.)
use Rattle.std.specs.Prelude.{ℕ, Bool, true, false, Option, Some, None, List}
use Rattle.field_types.specs.declared.values.Value.{Value}
use Rattle.statement_syntax.specs.declared.Phrase.{Phrase}
use Rattle.statement_syntax.specs.declared.Phrase.TheVariants.{Declare, ChangeVariable, IfGoto, IfDo, Else, DoWhile, EndDo, Goto, Monitor, Return, Request}
use Rattle.script_builder.specs.declared.phrases.Block.TheVariants.{ThenBlock, ElseBlock, LoopBlock}
use Rattle.script_builder.specs.declared.phrases.Nesting.{Nesting}
use Rattle.script_builder.specs.declared.phrases.Nesting.TheVariants.{Opens, Closes, Stays}

-- DCL, ENDDO and MONMSG don't count: they have no place in the script
abbrev pub counts : Phrase → Bool
counts (Declare variable value) = false
counts (ChangeVariable variable value) = true
counts (IfGoto condition label) = true
counts (IfDo condition) = true
counts Else = true
counts (DoWhile condition) = true
counts EndDo = false
counts (Goto label) = true
counts (Monitor takes label) = false
counts Return = true
counts (Request form into) = true

-- what a statement does to the open blocks
abbrev pub nesting_of : Phrase → Nesting
nesting_of (Declare variable value) = Stays
nesting_of (ChangeVariable variable value) = Stays
nesting_of (IfGoto condition label) = Stays
nesting_of (IfDo condition) = Opens ThenBlock
nesting_of Else = Opens ElseBlock
nesting_of (DoWhile condition) = Opens LoopBlock
nesting_of EndDo = Closes
nesting_of (Goto label) = Stays
nesting_of (Monitor takes label) = Stays
nesting_of Return = Stays
nesting_of (Request form into) = Stays

-- the label that a statement goes to
abbrev pub target_of : Phrase → Option (List ℕ)
target_of (Declare variable value) = None
target_of (ChangeVariable variable value) = None
target_of (IfGoto condition label) = Some label
target_of (IfDo condition) = None
target_of Else = None
target_of (DoWhile condition) = None
target_of EndDo = None
target_of (Goto label) = Some label
target_of (Monitor takes label) = label
target_of Return = None
target_of (Request form into) = None

-- the variable that it declares, and the literal
abbrev pub variable_of : Phrase → Option (List ℕ)
variable_of (Declare variable value) = Some variable
variable_of _ = None

abbrev pub literal_of : Phrase → Option Value
literal_of (Declare variable value) = Some value
literal_of _ = None

abbrev pub is_declaration : Phrase → Bool
is_declaration (Declare variable value) = true
is_declaration _ = false

abbrev pub is_else : Phrase → Bool
is_else Else = true
is_else _ = false

abbrev pub is_monitor : Phrase → Bool
is_monitor (Monitor takes label) = true
is_monitor _ = false

abbrev pub is_request : Phrase → Bool
is_request (Request form into) = true
is_request _ = false
