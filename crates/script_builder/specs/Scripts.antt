-- The script of a job's statements: whatever stands there, and where nothing is at fault what the job runs. (Our own.)
use Rattle.std.specs.Prelude.{ℕ, Option, Some, None, List, [], ◌∷◌, option_map}
use Rattle.field_types.specs.declared.values.Value.{Value}
use Rattle.library_model.specs.Named.{Named}
use Rattle.job_language.specs.declared.refusals.Monitor.{Monitor}
use Rattle.job_language.specs.declared.statements.Action.{Action}
use Rattle.job_language.specs.declared.statements.Action.TheVariants.{ChangeVariable as ChangeAction, If, Else as ElseAction, DoWhile as DoWhileAction, Goto as GotoAction, Return as ReturnAction, Request as RequestAction}
use Rattle.job_language.specs.declared.statements.Statement.{Statement}
use Rattle.job_language.specs.declared.statements.Script.{Script}
use Rattle.statement_syntax.specs.declared.Phrase.{Phrase}
use Rattle.statement_syntax.specs.declared.Phrase.TheVariants.{Declare, ChangeVariable, IfGoto, IfDo, Else, DoWhile, EndDo, Goto, Monitor as Monitoring, Return, Request}
use Rattle.statement_syntax.specs.declared.Written.{Written}
use Rattle.script_builder.specs.declared.ways.Way.{Way}
use Rattle.script_builder.specs.Phrases.{literal_of}
use Rattle.script_builder.specs.Ways.{count_of, labels_of, label_place, ways_of}

abbrev pub added : {A : Type 0} → Option A → List A → List A
added None xs = xs
added (Some x) xs = x ∷ xs

-- the literal of each DCL in order
abbrev pub literals_of : List Written → List Value
literals_of [] = []
literals_of (w ∷ ws) = added (literal_of w.phrase) (literals_of ws)

-- a MONMSG, with the place of its label
abbrev pub monitor_by : Phrase → Named ℕ → Option Monitor
monitor_by (Monitoring takes label) labels = Some (record { takes = takes; target = option_map (label_place labels) label })
monitor_by _ labels = None

-- the MONMSG that these statements begin with
abbrev pub monitor_of : List Written → Named ℕ → Option Monitor
monitor_of [] labels = None
monitor_of (w ∷ ws) labels = monitor_by w.phrase labels

-- what a statement does; DCL, ENDDO and MONMSG stand in no statement of their own
abbrev pub action_of : Phrase → ℕ → Option Monitor → Option Action
action_of (Declare variable value) otherwise monitor = None
action_of (ChangeVariable variable value) otherwise monitor = Some (ChangeAction variable value)
action_of (IfGoto condition label) otherwise monitor = Some (If condition otherwise)
action_of (IfDo condition) otherwise monitor = Some (If condition otherwise)
action_of Else otherwise monitor = Some ElseAction
action_of (DoWhile condition) otherwise monitor = Some (DoWhileAction condition otherwise)
action_of EndDo otherwise monitor = None
action_of (Goto label) otherwise monitor = Some GotoAction
action_of (Monitoring takes label) otherwise monitor = None
action_of Return otherwise monitor = Some ReturnAction
action_of (Request form into) otherwise monitor = Some (RequestAction (record { form = form; monitor = monitor; into = into }))

abbrev pub statement_of : Option Action → ℕ → ℕ → Option Statement
statement_of None line next = None
statement_of (Some action) line next = Some (record { line = line; action = action; next = next })

-- the statements that count, each with its way
abbrev pub statements_of : List Written → List Way → Named ℕ → List Statement
statements_of [] ways labels = []
statements_of (w ∷ ws) [] labels = []
statements_of (w ∷ ws) (way ∷ ways) labels =
    added (statement_of (action_of w.phrase way.otherwise (monitor_of ws labels)) w.line way.next) (statements_of ws ways labels)

abbrev pub script_of : List Written → Script
script_of written =
    let total = count_of written in
    let labels = labels_of written total 0 [] in
    record { variables = literals_of written; statements = statements_of written (ways_of written labels total []) labels }
