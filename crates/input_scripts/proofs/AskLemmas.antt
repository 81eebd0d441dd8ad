-- What the statements of a script ask that may all be run.
use Rattle.std.proofs.Common.{◌≡◌, ℕ, zero, suc, Bool, true, false, not, Option, Some, None, List, [], ◌∷◌, slice_get, refl}
use Rattle.std.specs.Prelude.{IfSome, option_map}
use Rattle.std.specs.List.{list_all}
use Rattle.std.proofs.lemmas.Bool.{and_parts}
use Rattle.field_types.specs.declared.values.Value.{Value}
use Rattle.library_model.specs.declared.requests.Request.{Request}
use Rattle.library_model.specs.declared.requests.Request.TheVariants as request
use Rattle.library_model.specs.declared.replies.Reply.{Reply}
use Rattle.built_requests.specs.Built.{is_built}
use Rattle.library_model.specs.Ending.{is_end_job}
use Rattle.job_language.specs.Asks.{asks, asks_at, asks_form, asks_action, asks_statement, progress_of}
use Rattle.job_language.specs.Requests.{request_of, record_number, sequence_of, display_of, changes_of, position_of, read_equal_of, chain_of, write_of, update_of}
use Rattle.job_language.specs.declared.forms.RequestForm.{RequestForm}
use Rattle.job_language.specs.declared.forms.RequestForm.TheVariants.{Fixed, DeleteReceiver, DisplayJournal, ApplyChanges, RemoveChanges, SetLowerLimit, SetGreaterThan, ReadEqual, ReadPriorEqual, Chain, Write, Update}
use Rattle.job_language.specs.declared.progress.Stage.{Stage}
use Rattle.job_language.specs.declared.progress.Stage.TheVariants.{NotBegun, Asking, Ended}
use Rattle.job_language.specs.declared.statements.Action.{Action}
use Rattle.job_language.specs.declared.statements.Action.TheVariants.{ChangeVariable, If, Else as ElseAction, DoWhile, Goto, Return, Request as RequestAction}
use Rattle.job_language.specs.declared.statements.Statement.{Statement}
use Rattle.job_language.specs.declared.statements.Script.{Script}
use Rattle.input_scripts.specs.Askable.{is_askable_form, is_askable, is_askable_script, made_by, made_at}

-- a request that the library answers and that ends no job
abbrev Open : Request → Type 0
Open request = (is_built request ≡ true) × (not (is_end_job request) ≡ true)

-- whatever the request is made of, where something is missing none is made
made-open : {A : Type 0} (make : A → Request) → ((args : A) → Open (make args)) → (args : Option A) → IfSome (option_map make args) Open
made-open make opens None = tt
made-open make opens (Some args) = opens args

form-open : (values : List Value) (form : RequestForm) → is_askable_form form ≡ true → IfSome (request_of values form) Open
form-open values (Fixed asked) h = and_parts (is_built asked) (not (is_end_job asked)) h
form-open values (DeleteReceiver operand) h = made-open (λ number. request.DeleteReceiver (record { number = number })) (λ number. (refl, refl)) (record_number values operand)
form-open values (DisplayJournal from to) h = made-open request.DisplayJournal (λ args. (refl, refl)) (display_of (sequence_of values from) (sequence_of values to))
form-open values (ApplyChanges form) h = made-open request.ApplyChanges (λ args. (refl, refl)) (changes_of values form)
form-open values (RemoveChanges form) h = made-open request.RemoveChanges (λ args. (refl, refl)) (changes_of values form)
form-open values (SetLowerLimit form) h = made-open request.SetLowerLimit (λ args. (refl, refl)) (position_of values form)
form-open values (SetGreaterThan form) h = made-open request.SetGreaterThan (λ args. (refl, refl)) (position_of values form)
form-open values (ReadEqual form) h = made-open request.ReadEqual (λ args. (refl, refl)) (read_equal_of values form)
form-open values (ReadPriorEqual form) h = made-open request.ReadPriorEqual (λ args. (refl, refl)) (read_equal_of values form)
form-open values (Chain form) h = made-open request.Chain (λ args. (refl, refl)) (chain_of values form)
form-open values (Write form) h = made-open request.Write (λ args. (refl, refl)) (write_of values form)
form-open values (Update form) h = made-open request.Update (λ args. (refl, refl)) (update_of values form)

-- the statement at a place is one of them
there : (statements : List Statement) (place : ℕ) → list_all (λ statement. is_askable statement.action) statements ≡ true → IfSome (slice_get statements place) (λ statement. is_askable statement.action ≡ true)
there [] place all = tt
there (statement ∷ statements) zero all = (and_parts (is_askable statement.action) (list_all (λ s. is_askable s.action) statements) all).0
there (statement ∷ statements) (suc place) all = there statements place (and_parts (is_askable statement.action) (list_all (λ s. is_askable s.action) statements) all).1

asks_form-built : (statement : Statement) (request : Option Request) (full : Bool) → IfSome request Open → is_built (asks_form statement request full) ≡ true
asks_form-built statement None full open_request = refl
asks_form-built statement (Some request) true open_request = refl
asks_form-built statement (Some request) false open_request = open_request.0

asks_action-built : (statement : Statement) (action : Action) (values : List Value) (full : Bool) → is_askable action ≡ true → is_built (asks_action statement action values full) ≡ true
asks_action-built statement (RequestAction args) values full h = asks_form-built statement (request_of values args.form) full (form-open values args.form h)
asks_action-built statement (ChangeVariable variable value) values full h = refl
asks_action-built statement (If condition otherwise) values full h = refl
asks_action-built statement ElseAction values full h = refl
asks_action-built statement (DoWhile condition otherwise) values full h = refl
asks_action-built statement Goto values full h = refl
asks_action-built statement Return values full h = refl

asks_statement-built : (statement : Option Statement) (values : List Value) (full : Bool) → IfSome statement (λ s. is_askable s.action ≡ true) → is_built (asks_statement statement values full) ≡ true
asks_statement-built None values full h = refl
asks_statement-built (Some statement) values full h = asks_action-built statement statement.action values full h

asks_at-built : (statements : List Statement) (stage : Stage) (values : List Value) (full : Bool) → list_all (λ s. is_askable s.action) statements ≡ true → is_built (asks_at statements stage values full) ≡ true
asks_at-built statements NotBegun values full all = refl
asks_at-built statements (Asking place) values full all = asks_statement-built (slice_get statements place) values full (there statements place all)
asks_at-built statements (Ended reason line) values full all = refl

pub asks-built : (script : Script) → is_askable_script script ≡ true → (replies : List Reply) (full : Bool) → is_built (asks script replies full) ≡ true
asks-built script askable replies full =
    let state = progress_of script replies in
    asks_at-built script.statements state.stage state.values full askable

made_by-open : (values : List Value) (made : Option Request) → IfSome made Open → IfSome made (λ request. not (is_end_job request) ≡ true)
made_by-open values None h = tt
made_by-open values (Some request) h = h.1

action-open : (values : List Value) (action : Action) → is_askable action ≡ true → IfSome (made_by values action) (λ request. not (is_end_job request) ≡ true)
action-open values (RequestAction args) h = made_by-open values (request_of values args.form) (form-open values args.form h)
action-open values (ChangeVariable variable value) h = tt
action-open values (If condition otherwise) h = tt
action-open values ElseAction h = tt
action-open values (DoWhile condition otherwise) h = tt
action-open values Goto h = tt
action-open values Return h = tt

at-open : (values : List Value) (statement : Option Statement) → IfSome statement (λ s. is_askable s.action ≡ true) → IfSome (made_at values statement) (λ request. not (is_end_job request) ≡ true)
at-open values None h = tt
at-open values (Some statement) h = action-open values statement.action h

pub makes-open : (script : Script) → is_askable_script script ≡ true → (place : ℕ) (values : List Value) → IfSome (made_at values (slice_get script.statements place)) (λ request. not (is_end_job request) ≡ true)
makes-open script askable place values = at-open values (slice_get script.statements place) (there script.statements place askable)
