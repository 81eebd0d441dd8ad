-- How a job's state follows from one statement, and from one reply more.
use Rattle.std.proofs.Common.{◌≡◌, ℕ, zero, suc, ◌-◌, ◌<◌, Some, None, List, [], ◌∷◌, ◌++◌, slice_get, refl, sym, ◌∙◌, arith}
use Rattle.field_types.specs.declared.values.Value.{Value}
use Rattle.library_model.specs.declared.replies.Reply.{Reply}
use Rattle.library_model.specs.declared.requests.EndReason.{EndReason}
use Rattle.library_model.specs.declared.requests.EndReason.TheVariants.{Normal, Statements}
use Rattle.job_language.specs.declared.statements.Statement.{Statement}
use Rattle.job_language.specs.declared.statements.Script.{Script}
use Rattle.job_language.specs.declared.steps.Step.TheVariants.{GoOn, Ask, End}
use Rattle.job_language.specs.declared.progress.Stage.TheVariants.{Asking, Ended}
use Rattle.job_language.specs.Asks.{JobState, run_none, run_one, run_from, stands, step_of, values_after, state_after, after_replies}

pub run_from-zero : (statements : List Statement) (place : ℕ) (values : List Value) → run_from zero statements place values ≡ run_none (slice_get statements place) values
unfolding run_from
run_from-zero statements place values = refl

pub run_from-suc : (left : ℕ) (statements : List Statement) (place : ℕ) (values : List Value) → run_from (suc left) statements place values ≡ run_one (slice_get statements place) place left values (λ to after. run_from left statements to after)
unfolding run_from
run_from-suc left statements place values = refl

-- where there is no statement the script has ended
pub run_from-past : (left : ℕ) (statements : List Statement) (place : ℕ) (values : List Value) → slice_get statements place ≡ None → run_from left statements place values ≡ record { stage = Ended Normal 0; left = left; values = values }
run_from-past zero statements place values past = run_from-zero statements place values ∙ rw past refl
run_from-past (suc left) statements place values past = run_from-suc left statements place values ∙ rw past refl

-- a statement there is run, and counts
pub run_from-one : (left : ℕ) (statements : List Statement) (place : ℕ) (values : List Value) (statement : Statement) → slice_get statements place ≡ Some statement → 0 < left → run_from left statements place values ≡ stands (step_of statement values) place (left - 1) (values_after statement.action values) (λ to. run_from (left - 1) statements to (values_after statement.action values))
run_from-one zero statements place values statement there some = absurd (omega arith)
run_from-one (suc left) statements place values statement there some =
    let less : suc left - 1 ≡ left = omega arith in
    run_from-suc left statements place values ∙ rw (there, less) refl

pub run_from-none : (left : ℕ) (statements : List Statement) (place : ℕ) (values : List Value) (statement : Statement) → slice_get statements place ≡ Some statement → left ≡ 0 → run_from left statements place values ≡ record { stage = Ended Statements 0; left = left; values = values }
run_from-none zero statements place values statement there none = run_from-zero statements place values ∙ rw there refl
run_from-none (suc left) statements place values statement there none = absurd (omega arith)

module _ (left : ℕ) (statements : List Statement) (place : ℕ) (values after : List Value) (statement : Statement) (there : slice_get statements place ≡ Some statement) (some : left ≡ 0 → ⊥) (is : after ≡ values_after statement.action values) where
  pub run_from-goes : (to : ℕ) → step_of statement values ≡ GoOn to → run_from (left - 1) statements to after ≡ run_from left statements place values
  run_from-goes to step = sym (run_from-one left statements place values statement there (omega arith) ∙ rw (step, is) refl)

  pub run_from-asks : step_of statement values ≡ Ask → record { stage = Asking place; left = left - 1; values = after } ≡ run_from left statements place values
  run_from-asks step = sym (run_from-one left statements place values statement there (omega arith) ∙ rw (step, is) refl)

  pub run_from-ends : (reason : EndReason) (line : ℕ) → step_of statement values ≡ End reason line → record { stage = Ended reason line; left = left - 1; values = after } ≡ run_from left statements place values
  run_from-ends reason line step = sym (run_from-one left statements place values statement there (omega arith) ∙ rw (step, is) refl)

pub after_replies-more : (script : Script) (state : JobState) (replies : List Reply) (reply : Reply) → after_replies script state (replies ++ reply ∷ []) ≡ state_after script (after_replies script state replies) (Some reply)
after_replies-more script state [] reply = refl
after_replies-more script state (r ∷ replies) reply = after_replies-more script (state_after script state (Some r)) replies reply
