-- Which histories are legal: each call is of a job that runs, and has the reply of the step from the state that the calls before it left.
-- A call that finds the store at fault is the last. (Our own.)
use Rattle.std.specs.Prelude.{◌≡◌, Bool, false, not, IsTrue, List, [], ◌∷◌, Option, Some, None}
use Rattle.journal_model.below.entry_codec.specs.declared.entries.Entry.{Entry}
use Rattle.library_model.specs.declared.calls.Call.{Call}
use Rattle.library_model.specs.declared.replies.Reply.TheVariants.{StoreFault}
use Rattle.library_model.specs.declared.sources.NamedSource.{NamedSource}
use Rattle.library_steps.specs.State.{State, JobState, job_at}
use Rattle.library_steps.specs.Step.{step, MayAnswer}

-- the job has begun and not ended
abbrev pub is_running : Option JobState → Bool
is_running None = false
is_running (Some job) = not job.ended

-- what calls lead to: a state that stands, or a library that has failed, of which no more is known than the entries that its journal was to hold
pub data Outcome : Type 0 where
  Standing : State → Outcome
  Failed : List Entry → Outcome

-- a call on a library in this state comes to this
abbrev pub Comes : List NamedSource → State → Call → Outcome → Type 0
Comes sources s call (Standing t) = MayAnswer sources s call.job call.timestamp call.request call.reply t
Comes sources s call (Failed entries) =
    (call.reply ≡ StoreFault) × (entries ≡ (step sources s call.job call.timestamp call.request).0.entries)

-- the calls lead from the first outcome to the last
abbrev pub Runs : List NamedSource → Outcome → List Call → Outcome → Type 0
Runs sources from [] to = to ≡ from
Runs sources (Standing s) (call ∷ calls) to =
    IsTrue (is_running (job_at call.job s.jobs)) × (mid : Outcome) × Comes sources s call mid × Runs sources mid calls to
Runs sources (Failed entries) (call ∷ calls) to = ⊥
