-- What a job asks next: a function of its script, of the replies that it has had, and of whether the history is full.
-- (CL programs: the statements, MONMSG; the bound on statements and the reasons of ENDJOB are our own.)
use Rattle.std.specs.Prelude.{ℕ, zero, suc, Bool, true, false, if◌then◌else◌, Option, Some, None, List, [], ◌∷◌, slice_get, slice_set}
use Rattle.std.specs.Option.{is_some, unwrap_or}
use Rattle.field_types.specs.declared.values.Value.{Value}
use Rattle.library_model.specs.declared.requests.Request.{Request}
use Rattle.library_model.specs.declared.requests.Request.TheVariants.{EndJob}
use Rattle.library_model.specs.declared.requests.EndReason.{EndReason}
use Rattle.library_model.specs.declared.requests.EndReason.TheVariants.{Normal, Escape, Expression, Statements, History}
use Rattle.library_model.specs.declared.replies.Reply.{Reply}
use Rattle.job_language.specs.Refusals.{refusal_of, takes}
use Rattle.job_language.specs.Replies.{shown, has_fields, put_into}
use Rattle.job_language.specs.Values.{result_of, truth_of}
use Rattle.job_language.specs.Requests.{request_of}
use Rattle.job_language.specs.declared.refusals.Refusal.{Refusal}
use Rattle.job_language.specs.declared.refusals.Monitor.{Monitor}
use Rattle.job_language.specs.declared.statements.Action.{Action}
use Rattle.job_language.specs.declared.statements.Action.TheVariants.{ChangeVariable, If, Else, DoWhile, Goto, Return, Request as RequestAction}
use Rattle.job_language.specs.declared.statements.RequestStatement.{RequestStatement}
use Rattle.job_language.specs.declared.statements.Statement.{Statement}
use Rattle.job_language.specs.declared.statements.Script.{Script}
use Rattle.job_language.specs.declared.steps.Step.{Step}
use Rattle.job_language.specs.declared.steps.Step.TheVariants.{GoOn, Ask, End}
use Rattle.job_language.specs.declared.progress.Stage.{Stage}
use Rattle.job_language.specs.declared.progress.Stage.TheVariants.{NotBegun, Asking, Ended}
use Rattle.job_language.specs.declared.progress.TheConstants.{MOST_STATEMENTS}

-- where a job stands, how many statements it may still run, and its variables' values
pub record JobState : Type 0 where
  pub stage : Stage
  pub left : ℕ
  pub values : List Value

-- where a branch leads; a condition without a value ends the job
abbrev pub branch : Statement → ℕ → Option Bool → Step
branch statement otherwise None = End Expression statement.line
branch statement otherwise (Some true) = GoOn statement.next
branch statement otherwise (Some false) = GoOn otherwise

abbrev pub change : Statement → Option Value → Step
change statement None = End Expression statement.line
change statement (Some value) = GoOn statement.next

-- what comes after a statement that is run: another place, its request, or the job's end
abbrev pub act : Statement → Action → List Value → Step
act statement (ChangeVariable variable value) values = change statement (result_of values value)
act statement (If condition otherwise) values = branch statement otherwise (truth_of values condition)
act statement Else values = GoOn statement.next
act statement (DoWhile condition otherwise) values = branch statement otherwise (truth_of values condition)
act statement Goto values = GoOn statement.next
act statement Return values = End Normal 0
act statement (RequestAction args) values = Ask

abbrev pub step_of : Statement → List Value → Step
step_of statement values = act statement statement.action values

abbrev pub changed : ℕ → Option Value → List Value → List Value
changed variable None values = values
changed variable (Some value) values = slice_set values variable value

-- the variables' values after it: CHGVAR alone changes one
abbrev pub values_after : Action → List Value → List Value
values_after (ChangeVariable variable value) values = changed variable (result_of values value) values
values_after (If condition otherwise) values = values
values_after Else values = values
values_after (DoWhile condition otherwise) values = values
values_after Goto values = values
values_after Return values = values
values_after (RequestAction args) values = values

-- a refusal that the MONMSG takes goes on at its label, or as after OK; any other ends the job
abbrev pub monitored : Statement → Refusal → Option Monitor → Step
monitored statement refusal None = End Escape statement.line
monitored statement refusal (Some monitor) =
    if takes monitor.takes refusal then GoOn (unwrap_or monitor.target statement.next) else End Escape statement.line

-- OK goes on; a record with fewer fields than TO has variables ends the job
abbrev pub answered : Statement → RequestStatement → Reply → Option Refusal → Step
answered statement args reply (Some refusal) = monitored statement refusal args.monitor
answered statement args reply None = if has_fields args.into reply then GoOn statement.next else End Expression statement.line

-- what comes after the reply to a statement's request; a statement that makes none waits
abbrev pub reply_action : Statement → Action → Reply → Step
reply_action statement (RequestAction args) reply = answered statement args reply (refusal_of reply)
reply_action statement (ChangeVariable variable value) reply = Ask
reply_action statement (If condition otherwise) reply = Ask
reply_action statement Else reply = Ask
reply_action statement (DoWhile condition otherwise) reply = Ask
reply_action statement Goto reply = Ask
reply_action statement Return reply = Ask

abbrev pub reply_step : Statement → Reply → Step
reply_step statement reply = reply_action statement statement.action reply

abbrev pub put_answer : RequestStatement → Reply → Option Refusal → List Value → List Value
put_answer args reply (Some refusal) values = values
put_answer args reply None values = if has_fields args.into reply then put_into args.into (shown reply) values else values

-- the variables' values after it: TO has the first fields of the record that was read
abbrev pub values_replied : Action → Reply → List Value → List Value
values_replied (RequestAction args) reply values = put_answer args reply (refusal_of reply) values
values_replied (ChangeVariable variable value) reply values = values
values_replied (If condition otherwise) reply values = values
values_replied Else reply values = values
values_replied (DoWhile condition otherwise) reply values = values
values_replied Goto reply values = values
values_replied Return reply values = values

-- on at a place, at the request of this one, or ended
abbrev pub stands : Step → ℕ → ℕ → List Value → (ℕ → JobState) → JobState
stands (GoOn to) place left values goes = goes to
stands Ask place left values goes = record { stage = Asking place; left = left; values = values }
stands (End reason line) place left values goes = record { stage = Ended reason line; left = left; values = values }

abbrev pub ended : EndReason → ℕ → ℕ → List Value → JobState
ended reason line left values = record { stage = Ended reason line; left = left; values = values }

-- no more statements may be run
abbrev pub run_none : Option Statement → List Value → JobState
run_none None values = ended Normal 0 0 values
run_none (Some statement) values = ended Statements 0 0 values

-- the statement there is run, and counts; past the script's end the job ends
abbrev pub run_one : Option Statement → ℕ → ℕ → List Value → (ℕ → List Value → JobState) → JobState
run_one None place left values goes = ended Normal 0 (suc left) values
run_one (Some statement) place left values goes =
    let after = values_after statement.action values in
    stands (step_of statement values) place left after (λ to. goes to after)

-- the statements from a place on, up to the next request or the end, as many as may still be run
unfoldable pub run_from : ℕ → List Statement → ℕ → List Value → JobState
run_from zero statements place values = run_none (slice_get statements place) values
run_from (suc left) statements place values =
    run_one (slice_get statements place) place left values (λ to after. run_from left statements to after)

-- the job goes on with the reply to the request that it waits at
abbrev pub reply_to : Option Statement → List Statement → ℕ → JobState → Reply → JobState
reply_to None statements place state reply = state
reply_to (Some statement) statements place state reply =
    let after = values_replied statement.action reply state.values in
    stands (reply_step statement reply) place state.left after (λ to. run_from state.left statements to after)

-- the job begins, or goes on with the reply to its last request; one that has ended stays so
abbrev pub goes_on : List Statement → Stage → JobState → Option Reply → JobState
goes_on statements NotBegun state last = run_from state.left statements 0 state.values
goes_on statements (Asking place) state None = state
goes_on statements (Asking place) state (Some reply) = reply_to (slice_get statements place) statements place state reply
goes_on statements (Ended reason line) state last = state

abbrev pub state_after : Script → JobState → Option Reply → JobState
state_after script state last = goes_on script.statements state.stage state last

abbrev pub end_job : EndReason → ℕ → Request
end_job reason line = EndJob (record { reason = reason; line = line })

-- an expression's fault comes before a full history
abbrev pub asks_form : Statement → Option Request → Bool → Request
asks_form statement None full = end_job Expression statement.line
asks_form statement (Some request) true = end_job History 0
asks_form statement (Some request) false = request

-- a job waits at requests alone
abbrev pub asks_action : Statement → Action → List Value → Bool → Request
asks_action statement (RequestAction args) values full = asks_form statement (request_of values args.form) full
asks_action statement (ChangeVariable variable value) values full = end_job Normal 0
asks_action statement (If condition otherwise) values full = end_job Normal 0
asks_action statement Else values full = end_job Normal 0
asks_action statement (DoWhile condition otherwise) values full = end_job Normal 0
asks_action statement Goto values full = end_job Normal 0
asks_action statement Return values full = end_job Normal 0

abbrev pub asks_statement : Option Statement → List Value → Bool → Request
asks_statement None values full = end_job Normal 0
asks_statement (Some statement) values full = asks_action statement statement.action values full

-- what is asked where the job stands
abbrev pub asks_at : List Statement → Stage → List Value → Bool → Request
asks_at statements NotBegun values full = end_job Normal 0
asks_at statements (Asking place) values full = asks_statement (slice_get statements place) values full
asks_at statements (Ended reason line) values full = end_job reason line

abbrev pub asks_in : Script → JobState → Bool → Request
asks_in script state full = asks_at script.statements state.stage state.values full

-- a job that has run nothing
abbrev pub start : Script → JobState
start script = record { stage = NotBegun; left = MOST_STATEMENTS; values = script.variables }

abbrev pub after_replies : Script → JobState → List Reply → JobState
after_replies script state [] = state
after_replies script state (reply ∷ replies) = after_replies script (state_after script state (Some reply)) replies

-- the state of a job that has had these replies: its next request is its place, or it has ended
abbrev pub progress_of : Script → List Reply → JobState
progress_of script replies = after_replies script (state_after script (start script) None) replies

-- what a job asks that has had these replies
abbrev pub asks : Script → List Reply → Bool → Request
asks script replies full = asks_in script (progress_of script replies) full

-- the job has begun where it has a reply to go on with, and hasn't where it has none
abbrev pub continues : Stage → Option Reply → Bool
continues NotBegun last = true
continues (Asking place) last = is_some last
continues (Ended reason line) last = true

abbrev pub is_end : Request → Bool
is_end (EndJob args) = true
is_end _ = false

abbrev pub ends : Step → Bool
ends (GoOn to) = false
ends Ask = false
ends (End reason line) = true

-- the reply ends the job by itself, with no more statements
abbrev pub reply_ends : Option Statement → Option Reply → Bool
reply_ends None last = false
reply_ends (Some statement) None = false
reply_ends (Some statement) (Some reply) = ends (reply_step statement reply)

-- the job has ended, or the reply to its last request ends it
abbrev pub has_ended : List Statement → Stage → Option Reply → Bool
has_ended statements NotBegun last = false
has_ended statements (Asking place) last = reply_ends (slice_get statements place) last
has_ended statements (Ended reason line) last = true
