-- Which statements a job may run so far: those whose request the library answers, whatever its variables hold. (Our own.)
use Rattle.std.specs.Prelude.{ℕ, Bool, true, not, ◌&&◌, Option, Some, None, List, IsTrue, IfSome, slice_get}
use Rattle.std.specs.List.{list_all}
use Rattle.field_types.specs.declared.values.Value.{Value}
use Rattle.library_model.specs.declared.requests.Request.{Request}
use Rattle.library_model.specs.declared.replies.Reply.{Reply}
use Rattle.built_requests.specs.Built.{is_built}
use Rattle.library_model.specs.Ending.{is_end_job}
use Rattle.job_language.specs.declared.forms.RequestForm.{RequestForm}
use Rattle.job_language.specs.declared.forms.RequestForm.TheVariants.{Fixed, DeleteReceiver, DisplayJournal, ApplyChanges, RemoveChanges, SetLowerLimit, SetGreaterThan, ReadEqual, ReadPriorEqual, Chain, Write, Update}
use Rattle.job_language.specs.declared.statements.Action.{Action}
use Rattle.job_language.specs.declared.statements.Action.TheVariants.{ChangeVariable, If, Else as ElseAction, DoWhile, Goto, Return, Request as RequestAction}
use Rattle.job_language.specs.declared.statements.Script.{Script}
use Rattle.job_language.specs.declared.statements.Statement.{Statement}
use Rattle.job_language.specs.Requests.{request_of}
use Rattle.job_language.specs.Asks.{asks}

-- the library answers it, and it isn't the end of the job, which a job asks for by itself
abbrev pub is_askable_form : RequestForm → Bool
is_askable_form (Fixed request) = is_built request && not (is_end_job request)
is_askable_form (DeleteReceiver operand) = true
is_askable_form (DisplayJournal from to) = true
is_askable_form (ApplyChanges form) = true
is_askable_form (RemoveChanges form) = true
is_askable_form (SetLowerLimit form) = true
is_askable_form (SetGreaterThan form) = true
is_askable_form (ReadEqual form) = true
is_askable_form (ReadPriorEqual form) = true
is_askable_form (Chain form) = true
is_askable_form (Write form) = true
is_askable_form (Update form) = true

-- a statement that asks nothing may be run in any case
abbrev pub is_askable : Action → Bool
is_askable (RequestAction args) = is_askable_form args.form
is_askable (ChangeVariable variable value) = true
is_askable (If condition otherwise) = true
is_askable ElseAction = true
is_askable (DoWhile condition otherwise) = true
is_askable Goto = true
is_askable Return = true

abbrev pub is_askable_script : Script → Bool
is_askable_script script = list_all (λ statement. is_askable statement.action) script.statements

-- the request that a statement makes with these values of the variables, where it makes one
abbrev pub made_by : List Value → Action → Option Request
made_by values (RequestAction args) = request_of values args.form
made_by values (ChangeVariable variable value) = None
made_by values (If condition otherwise) = None
made_by values ElseAction = None
made_by values (DoWhile condition otherwise) = None
made_by values Goto = None
made_by values Return = None

abbrev pub made_at : List Value → Option Statement → Option Request
made_at values None = None
made_at values (Some statement) = made_by values statement.action

-- the library answers what the job asks, whatever the replies were
abbrev pub AsksWhatIsBuilt : Script → Type 0
AsksWhatIsBuilt script = (replies : List Reply) (full : Bool) → IsTrue (is_built (asks script replies full))

-- no statement ends the job by a request: ENDJOB is asked where the job has come to its end, and nowhere else
abbrev pub EndsByItself : Script → Type 0
EndsByItself script = (place : ℕ) (values : List Value) → IfSome (made_at values (slice_get script.statements place)) (λ request. IsTrue (not (is_end_job request)))
