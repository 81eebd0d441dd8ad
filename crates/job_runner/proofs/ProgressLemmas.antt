-- How a progress stands for the replies of a job: at its begin, when it has asked, and with one reply more.
use Rattle.std.proofs.Common.{◌≡◌, ℕ, ◌+◌, ◌≤◌, ◌<◌, Bool, true, false, IsTrue, if◌then◌else◌, Option, Some, None, List, [], ◌∷◌, ◌++◌, length, slice_get, refl, sym, ◌∙◌, ap, subst, arith, length-append}
use Rattle.field_types.specs.declared.values.Value.{Value}
use Rattle.library_model.specs.declared.replies.Reply.{Reply}
use Rattle.library_model.specs.declared.requests.Request.{Request}
use Rattle.library_model.specs.declared.requests.Request.TheVariants.{EndJob}
use Rattle.library_model.specs.Ending.{is_end_job}
use Rattle.job_language.specs.declared.statements.Script.{Script}
use Rattle.job_language.specs.declared.statements.Statement.{Statement}
use Rattle.job_language.specs.declared.steps.Step.{Step}
use Rattle.job_language.specs.declared.steps.Step.TheVariants.{GoOn, Ask, End}
use Rattle.job_language.specs.declared.progress.Stage.{Stage}
use Rattle.job_language.specs.declared.progress.Stage.TheVariants.{NotBegun, Asking, Ended}
use Rattle.job_language.specs.declared.progress.TheConstants.{MOST_STATEMENTS}
use Rattle.job_language.specs.Asks.{JobState, start, state_after, goes_on, reply_to, reply_step, stands, run_from, values_replied, after_replies, progress_of, asks, asks_in, asks_at, continues, is_end, ends, reply_ends, has_ended as reply_has_ended}
use Rattle.job_runner.specs.Asked.{LeavesRunning}
use Rattle.job_runner.specs.Places.{IsProgress, HasAsked}

-- ---- lists of replies

no-last : (earlier : List Reply) (last : Reply) → [] ≡ earlier ++ last ∷ [] → ⊥
no-last [] last same = cc
no-last (reply ∷ earlier) last same = cc

-- one list has one last reply
parted : (replies earlier : List Reply) (reply last : Reply) → replies ++ reply ∷ [] ≡ earlier ++ last ∷ [] → (replies ≡ earlier) × (reply ≡ last)
parted [] [] reply last same = (refl, cc)
parted [] (first ∷ earlier) reply last same = absurd (no-last earlier last (let rest : [] ≡ earlier ++ last ∷ [] = cc in rest))
parted (first ∷ replies) [] reply last same = absurd (no-last replies reply (let rest : [] ≡ replies ++ reply ∷ [] = cc in rest))
parted (first ∷ replies) (other ∷ earlier) reply last same =
    let rest : replies ++ reply ∷ [] ≡ earlier ++ last ∷ [] = cc in
    let head : first ≡ other = cc in
    let parts = parted replies earlier reply last rest in
    (cc (head, parts.0), parts.1)

-- ---- one step of a job's state

pub after_replies-more : (script : Script) (state : JobState) (replies : List Reply) (reply : Reply) → after_replies script state (replies ++ reply ∷ []) ≡ state_after script (after_replies script state replies) (Some reply)
after_replies-more script state [] reply = refl
after_replies-more script state (first ∷ replies) reply = after_replies-more script (state_after script state (Some first)) replies reply

-- a job that waits at a request stays there while it has no reply
stays-at : (statements : List Statement) (stage : Stage) (state : JobState) (values : List Value) (full : Bool) → is_end (asks_at statements stage values full) ≡ false → goes_on statements stage state None ≡ state
stays-at statements NotBegun state values full asks_on = absurd (let e : true ≡ false = asks_on in cc)
stays-at statements (Asking place) state values full asks_on = refl
stays-at statements (Ended reason line) state values full asks_on = refl

stays-idle : (statements : List Statement) (stage : Stage) (state : JobState) (reply : Option Reply) → continues stage reply ≡ false → goes_on statements stage state reply ≡ state
stays-idle statements NotBegun state reply idle = absurd (let e : true ≡ false = idle in cc)
stays-idle statements (Asking place) state None idle = refl
stays-idle statements (Asking place) state (Some reply) idle = absurd (let e : true ≡ false = idle in cc)
stays-idle statements (Ended reason line) state reply idle = absurd (let e : true ≡ false = idle in cc)

continues-reply : (stage : Stage) (reply : Reply) → continues stage (Some reply) ≡ true
continues-reply NotBegun reply = refl
continues-reply (Asking place) reply = refl
continues-reply (Ended reason line) reply = refl

-- a reply that ends the job has the job ask for its end
step-ends : (script : List Statement) (step : Step) (place left : ℕ) (after : List Value) (goes : ℕ → JobState) (full : Bool) → ends step ≡ true → let state = stands step place left after goes in is_end (asks_at script state.stage state.values full) ≡ true
step-ends script (GoOn to) place left after goes full over = absurd (let e : false ≡ true = over in cc)
step-ends script Ask place left after goes full over = absurd (let e : false ≡ true = over in cc)
step-ends script (End reason line) place left after goes full over = refl

reply-ends : (script : List Statement) (found : Option Statement) (statements : List Statement) (place : ℕ) (state : JobState) (reply : Reply) (full : Bool) → reply_ends found (Some reply) ≡ true → let later = reply_to found statements place state reply in is_end (asks_at script later.stage later.values full) ≡ true
reply-ends script None statements place state reply full over = absurd (let e : false ≡ true = over in cc)
reply-ends script (Some statement) statements place state reply full over =
    step-ends script (reply_step statement reply) place state.left (values_replied statement.action reply state.values) (λ to. run_from state.left statements to (values_replied statement.action reply state.values)) full over

ended-asks : (script : List Statement) (stage : Stage) (state : JobState) (reply : Reply) (full : Bool) → state.stage ≡ stage → reply_has_ended script stage (Some reply) ≡ true → let later = goes_on script stage state (Some reply) in is_end (asks_at script later.stage later.values full) ≡ true
ended-asks script NotBegun state reply full at over = absurd (let e : false ≡ true = over in cc)
ended-asks script (Asking place) state reply full at over = reply-ends script (slice_get script place) script place state reply full over
ended-asks script (Ended reason line) state reply full at over = ap (λ stage. is_end (asks_at script stage state.values full)) at

-- so a job that asks for more was left running by its last reply
pub open-leaves : (script : Script) (replies : List Reply) (full : Bool) → is_end (asks script replies full) ≡ false → LeavesRunning script replies
open-leaves script replies full asks_on earlier last same =
    by-end (reply_has_ended script.statements before.stage (Some last)) refl
  where
    before : JobState
    before = progress_of script earlier

    by-end : (over : Bool) → reply_has_ended script.statements (progress_of script earlier).stage (Some last) ≡ over → over ≡ false
    by-end false is = refl
    by-end true is =
        let ended : is_end (asks_in script (state_after script (progress_of script earlier) (Some last)) full) ≡ true = ended-asks script.statements (progress_of script earlier).stage (progress_of script earlier) last full refl is in
        let more = after_replies-more script (state_after script (start script) None) earlier last in
        let here : is_end (asks script replies full) ≡ true = ap (λ rs. is_end (asks script rs full)) same ∙ ap (λ state. is_end (asks_in script state full)) more ∙ ended in
        sym here ∙ asks_on

-- ---- the end that a job asks for is the ENDJOB of the library

pub is_end-same : (request : Request) → is_end request ≡ is_end_job request
is_end-same (EndJob args) = refl
is_end-same request = refl

-- ---- what a progress stands for

pub IsProgress-first : (script : Script) → IsProgress script [] (start script) None
IsProgress-first script = record { state = refl; counted = omega arith; leaves = λ open_ended earlier last same. absurd (no-last earlier last same) }

-- what it asks
asked-by : (script : Script) (replies : List Reply) (old : JobState) (reply : Option Reply) (full : Bool) (request : Request) → IsProgress script replies old reply → request ≡ asks_in script (state_after script old reply) full → request ≡ asks script replies full
asked-by script replies old reply full request is asked = asked ∙ ap (λ state. asks_in script state full) is.state

HasAsked-by : (script : Script) (replies : List Reply) (old new : JobState) (reply : Option Reply) (request : Request) → IsProgress script replies old reply → new ≡ state_after script old reply → (IsTrue (continues old.stage reply) → is_end request ≡ false → new.left < old.left) → HasAsked script replies request new
HasAsked-by script replies old new reply request is moved falls = record {
  state = moved ∙ is.state;
  counted = λ goes_on. by-reply (continues old.stage reply) refl goes_on;
}
  where
    by-reply : (goes : Bool) → continues old.stage reply ≡ goes → is_end_job request ≡ false → length replies + 1 + new.left ≤ MOST_STATEMENTS
    by-reply true at open_ended =
        let less = falls at (is_end-same request ∙ open_ended) in
        let counted : length replies + 0 + old.left ≤ MOST_STATEMENTS = rw at at is.counted in
        omega (arith, less, counted)
    by-reply false at open_ended =
        let still : new.left ≡ old.left = ap (λ (state : JobState). state.left) (moved ∙ stays-idle script.statements old.stage old reply at) in
        let counted : length replies + 1 + old.left ≤ MOST_STATEMENTS = rw at at is.counted in
        omega (arith, still, counted)

-- the same from what was seen of the script and of the reply
pub next-asked : (script given : Script) (replies : List Reply) (old new : JobState) (reply seen : Option Reply) (request : Request) → given ≡ script → seen ≡ reply → IsProgress script replies old reply → new ≡ state_after given old seen → (IsTrue (continues old.stage seen) → is_end request ≡ false → new.left < old.left) → HasAsked script replies request new
next-asked script given replies old new reply seen request its same is moved falls =
    let falls_there : IsTrue (continues old.stage reply) → is_end request ≡ false → new.left < old.left = rw same at falls in
    HasAsked-by script replies old new reply request is (rw (its, same) at moved) falls_there

pub next-request : (script given : Script) (replies : List Reply) (old : JobState) (reply seen : Option Reply) (full : Bool) (request : Request) → given ≡ script → seen ≡ reply → IsProgress script replies old reply → request ≡ asks_in given (state_after given old seen) full → request ≡ asks script replies full
next-request script given replies old reply seen full request its same is asked = asked-by script replies old reply full request is (rw (its, same) at asked)

-- after the call
pub IsProgress-called : (script : Script) (replies : List Reply) (request : Request) (new : JobState) (reply : Reply) → HasAsked script replies request new → is_end_job request ≡ false → IsProgress script (replies ++ reply ∷ []) new (Some reply)
IsProgress-called script replies request new reply asked goes_on = record {
  state = ap (λ state. state_after script state (Some reply)) asked.state ∙ sym (after_replies-more script (state_after script (start script) None) replies reply);
  counted =
      let many = asked.counted goes_on in
      let more : length (replies ++ reply ∷ []) ≡ length replies + 1 = length-append replies (reply ∷ []) in
      rw (continues-reply new.stage reply) (omega (arith, many, more));
  leaves = λ open_ended earlier last same.
      let parts = parted replies earlier reply last same in
      let now : reply_has_ended script.statements (progress_of script replies).stage (Some reply) ≡ false = subst (λ (state : JobState). reply_has_ended script.statements state.stage (Some reply) ≡ false) asked.state open_ended in
      subst (λ (rs : List Reply). reply_has_ended script.statements (progress_of script rs).stage (Some last) ≡ false) parts.0 (subst (λ (r : Reply). reply_has_ended script.statements (progress_of script replies).stage (Some r) ≡ false) parts.1 now);
}

-- and where there was no room for it
pub IsProgress-kept : (script : Script) (replies : List Reply) (request : Request) (new : JobState) (full : Bool) → HasAsked script replies request new → request ≡ asks script replies full → is_end_job request ≡ false → IsProgress script replies new None
IsProgress-kept script replies request new full asked is goes_on =
    let open_ended : is_end (asks script replies full) ≡ false = ap is_end (sym is) ∙ is_end-same request ∙ goes_on in
    record {
      state = ap (λ state. state_after script state None) asked.state ∙ stays-at script.statements (progress_of script replies).stage (progress_of script replies) (progress_of script replies).values full open_ended;
      counted = by-reply (continues new.stage None);
      leaves = λ running. open-leaves script replies full open_ended;
    }
  where
    by-reply : (goes : Bool) → length replies + (if goes then 0 else 1) + new.left ≤ MOST_STATEMENTS
    by-reply true = let many = asked.counted goes_on in omega (arith, many)
    by-reply false = let many = asked.counted goes_on in omega (arith, many)
