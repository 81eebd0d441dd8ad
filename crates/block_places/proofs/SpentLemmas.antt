-- The requests that want no memory, one by one.
use Rattle.std.proofs.Common.{◌≡◌, ◌≤◌, ℕ, ◌+◌, ◌-◌, Bool, true, false, ◌||◌, if◌then◌else◌, IsTrue, Option, Some, None, Result, Ok, Err, List, [], ◌∷◌, refl, sym, ◌∙◌, ap, subst, arith}
use Rattle.std.specs.Option.{is_some}
use Rattle.journal_model.specs.Rollback.{MemberChange, numbered_from}
use Rattle.library_model.specs.declared.replies.Reply.{Reply}
use Rattle.library_model.specs.declared.requests.Request.{Request}
use Rattle.library_model.specs.declared.requests.Request.TheVariants.{CreatePhysicalFile, CreateLogicalFile, DeleteFile, AddMember, ClearMember, ReorganizeMember, StartJournaling, EndJournaling, ChangeJournal, DeleteReceiver, Checkpoint, DisplayJournal, ApplyChanges, RemoveChanges, StartCommitment, EndCommitment, Commit, Rollback, OpenFile, CloseFile, SetLowerLimit, SetGreaterThan, Read, ReadPrior, ReadEqual, ReadPriorEqual, Chain, Write, Update, Delete, Unlock, EndJob}
use Rattle.library_model.specs.declared.sources.NamedSource.{NamedSource}
use Rattle.library_model.specs.NeedsMemory.{needs_memory}
use Rattle.library_steps.specs.State.{CycleState, JobState, Memory, State, job_at, job_changed, job_of, memory_of, or_new, with_opens}
use Rattle.library_steps.specs.Change.{Change, does}
use Rattle.library_steps.specs.History.{is_running}
use Rattle.library_steps.specs.Step.{change}
use Rattle.library_steps.specs.Commitment.{changes_of, commit_change, committed_open, end_drafts, rollback_change, rolled_back_open, taken_back, undo_entries, without_cycle}
use Rattle.library_steps.specs.Drafts.{author_of}
use Rattle.library_steps.specs.EndJob.{end_change, ended_job}
use Rattle.block_places.specs.Dues.{cycle_due, has_entries, place_due, place_used, places_due}
use Rattle.block_places.proofs.DueLemmas.{Runs, due-changed, running-job}

-- a change gives up the place that it uses
abbrev pub Pays : List JobState → Change → Type 0
Pays jobs c = places_due c.memory.jobs + place_used c ≤ places_due jobs

does-pays : {A : Type 0} (effect : A → Change) (plan : Result A Reply) (jobs : List JobState) (c : Change) → does effect plan ≡ Ok c → ((a : A) → Pays jobs (effect a)) → Pays jobs c
does-pays effect (Ok a) jobs c is pays = let same : effect a ≡ c = cc in subst (λ (x : Change). Pays jobs x) same (pays a)
does-pays effect (Err reply) jobs c is pays = absurd cc

-- a change of a job that leaves whether it has ended and its commit cycle
same-due : (job : ℕ) (f : JobState → JobState) (jobs : List JobState) → Runs job jobs → ((j : JobState) → place_due (f j) ≡ place_due j) → places_due (job_changed (job - 1) f jobs) + 0 ≤ places_due jobs
same-due job f jobs runs keeps = let moved = due-changed (job - 1) f jobs runs.its runs.at in let same = keeps runs.its in omega (arith, moved, same)

-- the slots of changes that are taken back are no jobs
back-jobs : (undos : List MemberChange) (m : Memory) → (taken_back undos m).jobs ≡ m.jobs
back-jobs [] m = refl
back-jobs (undo ∷ undos) m = back-jobs undos _

-- ---- the boundaries

-- a commit cycle that is open ends; where none is, nothing is deposited
module _ (job : ℕ) (f : JobState → JobState) (jobs : List JobState) (runs : Runs job jobs) (ends : (j : JobState) → place_due (f j) ≡ (if j.ended then 0 else 1)) where
  cycle-ends : (its : JobState) → its.ended ≡ false → (used : Option CycleState → ℕ) → used None ≡ 0 → ((cycle : CycleState) → used (Some cycle) ≤ 1) → place_due (f its) + used its.cycle ≤ place_due its
  cycle-ends its alive used none some =
      let before : place_due its ≡ 1 + cycle_due its.cycle = ap (λ (b : Bool). if b then 0 else 1 + cycle_due its.cycle) alive in
      let after : place_due (f its) ≡ 1 = ends its ∙ ap (λ (b : Bool). if b then 0 else 1) alive in
      let pays : used its.cycle ≤ cycle_due its.cycle = by its.cycle in
      omega (arith, before, after, pays)
    where
      by : (o : Option CycleState) → used o ≤ cycle_due o
      by None = let fact : used None ≤ 0 = omega (arith, none) in fact
      by (Some cycle) = some cycle

  pub cycle-pays : (used : Option CycleState → ℕ) → used None ≡ 0 → ((cycle : CycleState) → used (Some cycle) ≤ 1) → places_due (job_changed (job - 1) f jobs) + used runs.its.cycle ≤ places_due jobs
  cycle-pays used none some =
      let moved = due-changed (job - 1) f jobs runs.its runs.at in
      let own = cycle-ends runs.its runs.alive used none some in
      omega (arith, moved, own)

one-at-most : (b : Bool) → (if b then 1 else 0) ≤ 1
one-at-most true = let fact : 1 ≤ 1 = omega arith in fact
one-at-most false = let fact : 0 ≤ 1 = omega arith in fact

found-job : (job : ℕ) (m : Memory) (runs : Runs job m.jobs) → job_of job m ≡ runs.its
found-job job m runs = ap or_new runs.found

commit-pays : (m : Memory) (job timestamp : ℕ) → Runs job m.jobs → Pays m.jobs (commit_change m job timestamp)
commit-pays m job timestamp runs =
    let used : Option CycleState → ℕ = λ o. if is_some o || has_entries (numbered_from (m.last_entry + 1) (end_drafts (author_of m job timestamp) o)) then 1 else 0 in
    let pays = cycle-pays job (λ (j : JobState). with_opens committed_open (without_cycle j)) m.jobs runs (λ j. refl) used refl (λ cycle. one-at-most true) in
    subst (λ (its : JobState). places_due (job_changed (job - 1) (λ (j : JobState). with_opens committed_open (without_cycle j)) m.jobs) + used its.cycle ≤ places_due m.jobs) (sym (found-job job m runs)) pays

rollback-pays : (m : Memory) (job timestamp : ℕ) → Runs job m.jobs → Pays m.jobs (rollback_change m job timestamp)
rollback-pays m job timestamp runs =
    let last = (taken_back (changes_of (job_of job m).cycle) m).last_entry in
    let used : Option CycleState → ℕ = λ o. if has_entries (numbered_from (last + 1) (undo_entries (author_of m job timestamp) o)) then 1 else 0 in
    let pays = cycle-pays job (λ (j : JobState). with_opens rolled_back_open (without_cycle j)) m.jobs runs (λ j. refl) used refl (λ cycle. one-at-most _) in
    subst (λ (jobs : List JobState). places_due (job_changed (job - 1) (λ (j : JobState). with_opens rolled_back_open (without_cycle j)) jobs) + used (job_of job m).cycle ≤ places_due m.jobs)
    (sym (back-jobs (changes_of (job_of job m).cycle) m))
    (subst (λ (its : JobState). places_due (job_changed (job - 1) (λ (j : JobState). with_opens rolled_back_open (without_cycle j)) m.jobs) + used its.cycle ≤ places_due m.jobs) (sym (found-job job m runs)) pays)

end-pays : (m : Memory) (job timestamp : ℕ) → Runs job m.jobs → Pays m.jobs (end_change m job timestamp)
end-pays m job timestamp runs =
    let moved = due-changed (job - 1) ended_job m.jobs runs.its runs.at in
    let before : place_due runs.its ≡ 1 + cycle_due runs.its.cycle = ap (λ (b : Bool). if b then 0 else 1 + cycle_due runs.its.cycle) runs.alive in
    let jobs : (end_change m job timestamp).memory.jobs ≡ job_changed (job - 1) ended_job m.jobs = ap (λ (js : List JobState). job_changed (job - 1) ended_job js) (back-jobs (changes_of (job_of job m).cycle) m) in
    let due = ap places_due jobs in
    let one : place_used (end_change m job timestamp) ≡ 1 = refl in
    let none : place_due (ended_job runs.its) ≡ 0 = refl in
    omega (arith, moved, before, due, one, none)

-- ---- all of them

pub none-wants : (sources : List NamedSource) (s : State) (job timestamp : ℕ) (request : Request) (c : Change) → IsTrue (is_running (job_at job s.jobs)) → needs_memory request ≡ false
    → change sources s.entries (memory_of s) job timestamp request ≡ Ok c → Pays s.jobs c
unfolding change
none-wants sources s job timestamp (CloseFile args) c running free is = does-pays _ _ s.jobs c is (λ a. same-due job _ s.jobs (running-job job s.jobs running) (λ j. refl))
none-wants sources s job timestamp (Unlock args) c running free is = does-pays _ _ s.jobs c is (λ a. same-due job _ s.jobs (running-job job s.jobs running) (λ j. refl))
none-wants sources s job timestamp (SetLowerLimit args) c running free is = does-pays _ _ s.jobs c is (λ a. same-due job _ s.jobs (running-job job s.jobs running) (λ j. refl))
none-wants sources s job timestamp (SetGreaterThan args) c running free is = does-pays _ _ s.jobs c is (λ a. same-due job _ s.jobs (running-job job s.jobs running) (λ j. refl))
none-wants sources s job timestamp Commit c running free is = does-pays _ _ s.jobs c is (λ a. commit-pays (memory_of s) job timestamp (running-job job s.jobs running))
none-wants sources s job timestamp Rollback c running free is = does-pays _ _ s.jobs c is (λ a. rollback-pays (memory_of s) job timestamp (running-job job s.jobs running))
none-wants sources s job timestamp (EndJob args) c running free is =
    let same : end_change (memory_of s) job timestamp ≡ c = cc in
    subst (λ (x : Change). Pays s.jobs x) same (end-pays (memory_of s) job timestamp (running-job job s.jobs running))
none-wants sources s job timestamp (CreatePhysicalFile args) c running free is = absurd cc
none-wants sources s job timestamp (CreateLogicalFile args) c running free is = absurd cc
none-wants sources s job timestamp (DeleteFile args) c running free is = absurd cc
none-wants sources s job timestamp (AddMember args) c running free is = absurd cc
none-wants sources s job timestamp (ClearMember args) c running free is = absurd cc
none-wants sources s job timestamp (ReorganizeMember args) c running free is = absurd cc
none-wants sources s job timestamp (StartJournaling args) c running free is = absurd cc
none-wants sources s job timestamp (EndJournaling args) c running free is = absurd cc
none-wants sources s job timestamp ChangeJournal c running free is = absurd cc
none-wants sources s job timestamp (DeleteReceiver args) c running free is = absurd cc
none-wants sources s job timestamp Checkpoint c running free is = absurd cc
none-wants sources s job timestamp (DisplayJournal args) c running free is = absurd cc
none-wants sources s job timestamp (ApplyChanges args) c running free is = absurd cc
none-wants sources s job timestamp (RemoveChanges args) c running free is = absurd cc
none-wants sources s job timestamp (StartCommitment args) c running free is = absurd cc
none-wants sources s job timestamp EndCommitment c running free is = absurd cc
none-wants sources s job timestamp (OpenFile args) c running free is = absurd cc
none-wants sources s job timestamp (Read args) c running free is = absurd cc
none-wants sources s job timestamp (ReadPrior args) c running free is = absurd cc
none-wants sources s job timestamp (ReadEqual args) c running free is = absurd cc
none-wants sources s job timestamp (ReadPriorEqual args) c running free is = absurd cc
none-wants sources s job timestamp (Chain args) c running free is = absurd cc
none-wants sources s job timestamp (Write args) c running free is = absurd cc
none-wants sources s job timestamp (Update args) c running free is = absurd cc
none-wants sources s job timestamp (Delete args) c running free is = absurd cc
