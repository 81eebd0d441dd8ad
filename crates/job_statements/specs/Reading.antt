-- What the lines of a job say: its statements, and which of its lines are at fault. (CL programs.)
use Rattle.std.specs.Prelude.{ℕ, ◌+◌, Bool, true, false, not, if◌then◌else◌, Option, Some, None, List, [], ◌∷◌, ◌++◌, length, take, min}
use Rattle.std.specs.Option.{is_some, option_and_then}
use Rattle.field_types.specs.SystemName.{is_name}
use Rattle.statement_syntax.specs.declared.Phrase.{Phrase}
use Rattle.statement_syntax.specs.declared.Phrase.TheVariants.{Declare, ChangeVariable, IfGoto, IfDo, Else, DoWhile, EndDo, Goto, Monitor, Return, Request}
use Rattle.statement_syntax.specs.declared.Written.{Written}
use Rattle.statement_reader.specs.declared.reading.Said.{Said}
use Rattle.statement_reader.specs.Statements.{statement_of, colon_in}
use Rattle.statement_reader.specs.Variables.{number_in}
use Rattle.statement_reader.specs.Words.{unindented}
use Rattle.script_builder.specs.declared.BuildError.{BuildError}
use Rattle.script_builder.specs.declared.BuildError.TheVariants.{NoMemory, Fault}
use Rattle.script_builder.specs.Faults.{noted, faults_of}
use Rattle.script_builder.specs.Least.{least, lesser}
use Rattle.script_builder.specs.Phrases.{variable_of}
use Rattle.script_builder.specs.Scripts.{script_of}
use Rattle.job_language.specs.declared.statements.Script.{Script}
use Rattle.input_scripts.specs.Askable.{is_askable_form}
use Rattle.job_statements.specs.Texts.{StatementText, texts_from}

-- what the text says with these variables declared; None where it isn't whole, or is no statement
abbrev pub said_in : List (List ℕ) → Bool → List ℕ → Option Said
said_in variables whole text = if whole then statement_of variables text else None

-- the variables with the one that a DCL declares
abbrev pub with_variable : List (List ℕ) → List ℕ → List (List ℕ)
with_variable variables name = if is_some (number_in variables name) then variables else variables ++ name ∷ []

abbrev pub with_declared : List (List ℕ) → Option (List ℕ) → List (List ℕ)
with_declared variables None = variables
with_declared variables (Some name) = with_variable variables name

abbrev pub declared_after : List (List ℕ) → Option Said → List (List ℕ)
declared_after variables None = variables
declared_after variables (Some said) = with_declared variables (variable_of said.phrase)

-- the library answers the request that is asked so far; any other statement may be run
abbrev pub is_runnable : Phrase → Bool
is_runnable (Request form into) = is_askable_form form
is_runnable (Declare name value) = true
is_runnable (ChangeVariable variable value) = true
is_runnable (IfGoto condition label) = true
is_runnable (IfDo condition) = true
is_runnable Else = true
is_runnable (DoWhile condition) = true
is_runnable EndDo = true
is_runnable (Goto label) = true
is_runnable (Monitor takes label) = true
is_runnable Return = true

abbrev pub is_read : Option Said → Bool
is_read None = false
is_read (Some said) = is_runnable said.phrase

-- the label before a text that may say nothing
abbrev pub label_of : List ℕ → Option (List ℕ)
label_of text = option_and_then (λ colon. if is_name (take colon (unindented text)) then Some (take colon (unindented text)) else None) (colon_in (unindented text))

-- the statement; one that says nothing keeps its label, so that a GOTO to it isn't blamed, and does nothing else
abbrev pub written_as : ℕ → List ℕ → Option Said → Written
written_as line text (Some said) = record { line = line; label = said.label; phrase = said.phrase }
written_as line text None = record { line = line; label = label_of text; phrase = Return }

-- the statements in order, after those that have declared these variables
unfoldable pub statements_from : List (List ℕ) → List StatementText → List Written
statements_from variables [] = []
statements_from variables (text ∷ texts) =
    let said = said_in variables text.whole text.text in
    written_as text.line text.text said ∷ statements_from (declared_after variables said) texts

-- the lines of texts that are no statement, or whose request the library doesn't answer yet
unfoldable pub unread_from : List (List ℕ) → List StatementText → List ℕ
unread_from variables [] = []
unread_from variables (text ∷ texts) =
    let said = said_in variables text.whole text.text in
    noted (not (is_read said)) text.line (unread_from (declared_after variables said) texts)

-- the statements of a job's lines, of which the first has this number
abbrev pub statements_of : ℕ → List (List ℕ) → List Written
statements_of first lines = statements_from [] (texts_from None first lines)

-- the lines at fault of a job whose lines begin at this number; the card after them is on the line behind the last
abbrev pub job_faults : ℕ → List (List ℕ) → List ℕ
job_faults first lines =
    unread_from [] (texts_from None first lines) ++ faults_of (statements_of first lines) (first + length lines)

abbrev pub job_script : ℕ → List (List ℕ) → Script
job_script first lines = script_of (statements_of first lines)

-- what was read so far, with what is still to be read: the statements, and the least line that is no statement
abbrev pub statements_ahead : List Written → List (List ℕ) → List StatementText → List Written
statements_ahead written variables texts = written ++ statements_from variables texts

abbrev pub unread_ahead : Option ℕ → List (List ℕ) → List StatementText → Option ℕ
unread_ahead unread variables texts = lesser unread (least (unread_from variables texts))

-- the fault on the lesser line of two, where memory was enough
abbrev pub earlier : Option ℕ → BuildError → BuildError
earlier unread NoMemory = NoMemory
earlier None (Fault line) = Fault line
earlier (Some other) (Fault line) = Fault (min other line)
