-- With each request that isn't the end fewer statements are left.
use Rattle.std.proofs.Common.{◌≡◌, ℕ, zero, suc, ◌<◌, Bool, true, false, cond, Option, Some, None, List, slice_get, unwrap_or, refl, sym, ◌∙◌, ap, arith}
use Rattle.field_types.specs.declared.values.Value.{Value}
use Rattle.library_model.specs.declared.replies.Reply.{Reply}
use Rattle.std.proofs.lemmas.Bool.{true≢false}
use Rattle.library_model.specs.declared.requests.Request.{Request as LibraryRequest}
use Rattle.library_model.specs.declared.requests.EndReason.TheVariants.{Escape, Expression}
use Rattle.job_language.specs.declared.refusals.Refusal.{Refusal}
use Rattle.job_language.specs.declared.refusals.Monitor.{Monitor}
use Rattle.job_language.specs.declared.statements.Action.{Action}
use Rattle.job_language.specs.declared.statements.Action.TheVariants.{ChangeVariable, If, Else, DoWhile, Goto, Return, Request}
use Rattle.job_language.specs.declared.statements.RequestStatement.{RequestStatement}
use Rattle.job_language.specs.declared.statements.Script.{Script}
use Rattle.job_language.specs.declared.statements.Statement.{Statement}
use Rattle.job_language.specs.declared.steps.Step.{Step}
use Rattle.job_language.specs.declared.steps.Step.TheVariants.{GoOn, Ask, End}
use Rattle.job_language.specs.declared.progress.Stage.{Stage}
use Rattle.job_language.specs.declared.progress.Stage.TheVariants.{NotBegun, Asking, Ended}
use Rattle.job_language.specs.Refusals.{takes, refusal_of}
use Rattle.job_language.specs.Replies.{has_fields}
use Rattle.job_language.specs.Asks.{JobState, run_none, run_one, run_from, stands, step_of, values_after, goes_on, reply_to, reply_action, answered, monitored, values_replied, asks_at, asks_action, asks_statement, asks_in, state_after, is_end, continues}
use Rattle.job_language.proofs.StateLemmas.{run_from-zero, run_from-suc}

-- a state at which less than some number of statements are left, unless the job ends there
abbrev Falls : List Statement → JobState → ℕ → Type 0
Falls statements state left = (values : List Value) (full : Bool) → is_end (asks_at statements state.stage values full) ≡ false → state.left < left

none-falls : (statements : List Statement) (s : Option Statement) (values : List Value) (left : ℕ) → Falls statements (run_none s values) left
none-falls statements None values left v full h = absurd cc
none-falls statements (Some s) values left v full h = absurd cc

one-falls : (left : ℕ) (statements : List Statement) (place : ℕ) (s : Option Statement) (values : List Value) → ((to : ℕ) (after : List Value) → Falls statements (run_from left statements to after) left) → Falls statements (run_one s place left values (λ to after. run_from left statements to after)) (suc left)
one-falls left statements place None values more = λ v full h. absurd cc
one-falls left statements place (Some s) values more = by-step (step_of s values) (values_after s.action values)
  where
    by-step : (s : Step) (after : List Value) → Falls statements (stands s place left after (λ to. run_from left statements to after)) (suc left)
    by-step (GoOn to) after = λ v full h. let l = more to after v full h in omega (arith, l)
    by-step Ask after = λ v full h. omega arith
    by-step (End reason line) after = λ v full h. absurd cc

run_from-falls : (left : ℕ) (statements : List Statement) (place : ℕ) (values : List Value) → Falls statements (run_from left statements place values) left
run_from-falls zero statements place values = rw run_from-zero (none-falls statements (slice_get statements place) values zero)
run_from-falls (suc left) statements place values =
    rw run_from-suc (one-falls left statements place (slice_get statements place) values (λ to after. run_from-falls left statements to after))

monitored-goes : (statement : Statement) (refusal : Refusal) (monitor : Option Monitor) → monitored statement refusal monitor ≡ Ask → ⊥
monitored-goes statement refusal None h = absurd cc
monitored-goes statement refusal (Some monitor) h = by-taken (takes monitor.takes refusal) h
  where
    by-taken : (taken : Bool) → cond taken (GoOn (unwrap_or monitor.target statement.next)) (End Escape statement.line) ≡ Ask → ⊥
    by-taken true h = absurd cc
    by-taken false h = absurd cc

answered-goes : (statement : Statement) (args : RequestStatement) (reply : Reply) (refusal : Option Refusal) → answered statement args reply refusal ≡ Ask → ⊥
answered-goes statement args reply (Some refusal) h = monitored-goes statement refusal args.monitor h
answered-goes statement args reply None h = by-fields (has_fields args.into reply) h
  where
    by-fields : (enough : Bool) → cond enough (GoOn statement.next) (End Expression statement.line) ≡ Ask → ⊥
    by-fields true h = absurd cc
    by-fields false h = absurd cc

step-falls : (statements : List Statement) (place left : ℕ) (after : List Value) (step : Step) → (step ≡ Ask → ⊥) → Falls statements (stands step place left after (λ to. run_from left statements to after)) left
step-falls statements place left after (GoOn to) goes = run_from-falls left statements to after
step-falls statements place left after Ask goes = absurd (goes refl)
step-falls statements place left after (End reason line) goes = λ v full h. absurd cc

-- a statement that makes no request asks for the end alone
waits : (statements : List Statement) (place left : ℕ) (after : List Value) (s : Statement) (a : Action) → slice_get statements place ≡ Some s → s.action ≡ a → ((v : List Value) (full : Bool) → is_end (asks_action s a v full) ≡ true) → Falls statements (record { stage = Asking place; left = left; values = after }) left
waits statements place left after s a there is end v full h =
    let asked : is_end (asks_action s a v full) ≡ false = ap (λ x. is_end (asks_action s x v full)) (sym is) ∙ ap (λ o. is_end (asks_statement o v full)) (sym there) ∙ h in
    absurd (true≢false (sym (end v full) ∙ asked))

replied-falls : (statements : List Statement) (place : ℕ) (s : Statement) (a : Action) (reply : Reply) (left : ℕ) (after : List Value) → slice_get statements place ≡ Some s → s.action ≡ a → Falls statements (stands (reply_action s a reply) place left after (λ to. run_from left statements to after)) left
replied-falls statements place s (Request args) reply left after there is = step-falls statements place left after (answered s args reply (refusal_of reply)) (answered-goes s args reply (refusal_of reply))
replied-falls statements place s (ChangeVariable variable value) reply left after there is = waits statements place left after s (ChangeVariable variable value) there is (λ v full. refl)
replied-falls statements place s (If condition otherwise) reply left after there is = waits statements place left after s (If condition otherwise) there is (λ v full. refl)
replied-falls statements place s Else reply left after there is = waits statements place left after s Else there is (λ v full. refl)
replied-falls statements place s (DoWhile condition otherwise) reply left after there is = waits statements place left after s (DoWhile condition otherwise) there is (λ v full. refl)
replied-falls statements place s Goto reply left after there is = waits statements place left after s Goto there is (λ v full. refl)
replied-falls statements place s Return reply left after there is = waits statements place left after s Return there is (λ v full. refl)

reply_to-falls : (statements : List Statement) (place : ℕ) (state : JobState) (reply : Reply) (s : Option Statement) → slice_get statements place ≡ s → state.stage ≡ Asking place → Falls statements (reply_to s statements place state reply) state.left
reply_to-falls statements place state reply None there at = λ v full h.
    let asked : is_end (asks_statement None v full) ≡ false =
    ap (λ o. is_end (asks_statement o v full)) (sym there) ∙ ap (λ stage. is_end (asks_at statements stage v full)) (sym at) ∙ h in
    absurd (true≢false asked)
reply_to-falls statements place state reply (Some s) there at = replied-falls statements place s s.action reply state.left (values_replied s.action reply state.values) there refl

goes_on-falls : (statements : List Statement) (stage : Stage) (state : JobState) (last : Option Reply) → continues stage last ≡ true → state.stage ≡ stage → Falls statements (goes_on statements stage state last) state.left
goes_on-falls statements NotBegun state last begun at = run_from-falls state.left statements 0 state.values
goes_on-falls statements (Asking place) state None begun at = absurd cc
goes_on-falls statements (Asking place) state (Some reply) begun at = reply_to-falls statements place state reply (slice_get statements place) refl at
goes_on-falls statements (Ended reason line) state last begun at = λ v full h.
    let asked : is_end (asks_at statements (Ended reason line) v full) ≡ false = ap (λ stage. is_end (asks_at statements stage v full)) (sym at) ∙ h in
    absurd (true≢false asked)

-- one request more leaves fewer statements
pub next-falls : (script : Script) (old new : JobState) (last : Option Reply) (full : Bool) (request : LibraryRequest) → new ≡ state_after script old last → request ≡ asks_in script new full → continues old.stage last ≡ true → is_end request ≡ false → new.left < old.left
next-falls script old new last full request is asked begun goes =
    let falls = goes_on-falls script.statements old.stage old last begun refl new.values full in
    let same : is_end (asks_at script.statements (goes_on script.statements old.stage old last).stage new.values full) ≡ false =
    ap (λ state. is_end (asks_at script.statements state.stage new.values full)) (sym is) ∙ ap is_end (sym asked) ∙ goes in
    rw is (falls same)
