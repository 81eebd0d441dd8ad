-- Each request leaves as many jobs as there were.
use Rattle.std.proofs.Common.{◌≡◌, ◌≤◌, ℕ, zero, suc, ◌+◌, ◌*◌, Bool, true, false, ◌||◌, if◌then◌else◌, Result, Ok, Err, List, [], ◌∷◌, length, refl, ◌∙◌, ap, subst, arith}
use Rattle.entry_codec.specs.declared.entries.Entry.{Entry}
use Rattle.journal_model.specs.Rollback.{MemberChange}
use Rattle.library_model.specs.declared.replies.Reply.{Reply}
use Rattle.library_model.specs.declared.requests.Request.{Request}
use Rattle.library_model.specs.declared.requests.Request.TheVariants.{CreatePhysicalFile, CreateLogicalFile, DeleteFile, AddMember, ClearMember, ReorganizeMember, StartJournaling, EndJournaling, ChangeJournal, DeleteReceiver, Checkpoint, DisplayJournal, ApplyChanges, RemoveChanges, StartCommitment, EndCommitment, Commit, Rollback, OpenFile, CloseFile, SetLowerLimit, SetGreaterThan, Read, ReadPrior, ReadEqual, ReadPriorEqual, Chain, Write, Update, Delete, Unlock, EndJob}
use Rattle.library_model.specs.declared.sources.NamedSource.{NamedSource}
use Rattle.library_steps.specs.State.{CycleState, JobState, Memory, job_changed, job_of, with_status}
use Rattle.library_steps.specs.Change.{Change, does}
use Rattle.library_steps.specs.Step.{change}
use Rattle.library_steps.specs.Commitment.{changes_of, rollback_change, taken_back}
use Rattle.library_steps.specs.ChangeRecord.{delete_change, update_change}
use Rattle.library_steps.specs.EndJob.{end_change}
use Rattle.library_steps.specs.SlotChange.{NewSlot, change_made, cycle_for, slot_changed, touched, with_slot, with_undo}
use Rattle.block_places.specs.Dues.{has_entries, place_used, places_due}
use Rattle.block_places.proofs.DueLemmas.{due-most}

-- as many jobs are there behind the change
abbrev pub Stay : List JobState → Change → Type 0
Stay jobs c = length c.memory.jobs ≡ length jobs

changed-length : (place : ℕ) (f : JobState → JobState) (jobs : List JobState) → length (job_changed place f jobs) ≡ length jobs
changed-length place f [] = refl
changed-length zero f (job ∷ jobs) = refl
changed-length (suc place) f (job ∷ jobs) = ap suc (changed-length place f jobs)

does-stay : {A : Type 0} (effect : A → Change) (plan : Result A Reply) (jobs : List JobState) (c : Change) → does effect plan ≡ Ok c → ((a : A) → Stay jobs (effect a)) → Stay jobs c
does-stay effect (Ok a) jobs c is stays = let same : effect a ≡ c = cc in subst (λ (x : Change). Stay jobs x) same (stays a)
does-stay effect (Err reply) jobs c is stays = absurd cc

-- the slots of changes that are taken back are no jobs
back-count : (undos : List MemberChange) (m : Memory) → length (taken_back undos m).jobs ≡ length m.jobs
back-count [] m = refl
back-count (undo ∷ undos) m = back-count undos _

undo-count : (commit : Bool) (job : ℕ) (undo : MemberChange) (cycle : CycleState) (m : Memory) → length (with_undo commit job undo cycle m).jobs ≡ length m.jobs
undo-count true job undo cycle m = changed-length _ _ m.jobs
undo-count false job undo cycle m = refl

-- a slot that changes
slot-count : (job : ℕ) (new : NewSlot) (m : Memory) → length (slot_changed job new m).jobs ≡ length m.jobs
slot-count job new m = undo-count new.opened.commit job (change_made m (job_of job m) new) (cycle_for m (job_of job m)) (with_status new.opened.member touched (with_slot new.opened.member new.rrn new.slot m))

update-stays : (m : Memory) (job timestamp : ℕ) (new : NewSlot) → Stay m.jobs (update_change m job timestamp new)
update-stays m job timestamp new = changed-length _ _ (slot_changed job new m).jobs ∙ slot-count job new m

delete-stays : (m : Memory) (job timestamp : ℕ) (new : NewSlot) → Stay m.jobs (delete_change m job timestamp new)
delete-stays m job timestamp new = changed-length _ _ (slot_changed job new m).jobs ∙ slot-count job new m

rollback-stays : (m : Memory) (job timestamp : ℕ) → Stay m.jobs (rollback_change m job timestamp)
rollback-stays m job timestamp = changed-length _ _ (taken_back (changes_of (job_of job m).cycle) m).jobs ∙ back-count (changes_of (job_of job m).cycle) m

end-stays : (m : Memory) (job timestamp : ℕ) → Stay m.jobs (end_change m job timestamp)
end-stays m job timestamp = changed-length _ _ (taken_back (changes_of (job_of job m).cycle) m).jobs ∙ back-count (changes_of (job_of job m).cycle) m

pub all-stay : (sources : List NamedSource) (entries : List Entry) (m : Memory) (job timestamp : ℕ) (request : Request) (c : Change) → change sources entries m job timestamp request ≡ Ok c → Stay m.jobs c
unfolding change
all-stay sources entries m job timestamp (CreatePhysicalFile args) c is = does-stay _ _ m.jobs c is (λ a. refl)
all-stay sources entries m job timestamp (CreateLogicalFile args) c is = does-stay _ _ m.jobs c is (λ a. refl)
all-stay sources entries m job timestamp (DeleteFile args) c is = does-stay _ _ m.jobs c is (λ a. refl)
all-stay sources entries m job timestamp (AddMember args) c is = does-stay _ _ m.jobs c is (λ a. refl)
all-stay sources entries m job timestamp (ClearMember args) c is = does-stay _ _ m.jobs c is (λ a. refl)
all-stay sources entries m job timestamp (ReorganizeMember args) c is = does-stay _ _ m.jobs c is (λ a. refl)
all-stay sources entries m job timestamp (StartJournaling args) c is = does-stay _ _ m.jobs c is (λ a. refl)
all-stay sources entries m job timestamp (EndJournaling args) c is = does-stay _ _ m.jobs c is (λ a. refl)
all-stay sources entries m job timestamp ChangeJournal c is = does-stay _ _ m.jobs c is (λ a. refl)
all-stay sources entries m job timestamp (DeleteReceiver args) c is = does-stay _ _ m.jobs c is (λ a. refl)
all-stay sources entries m job timestamp Checkpoint c is = does-stay _ _ m.jobs c is (λ a. refl)
all-stay sources entries m job timestamp (DisplayJournal args) c is = does-stay _ _ m.jobs c is (λ a. refl)
all-stay sources entries m job timestamp (ApplyChanges args) c is = does-stay _ _ m.jobs c is (λ a. refl)
all-stay sources entries m job timestamp (RemoveChanges args) c is = does-stay _ _ m.jobs c is (λ a. refl)
all-stay sources entries m job timestamp (StartCommitment args) c is = does-stay _ _ m.jobs c is (λ a. changed-length _ _ m.jobs)
all-stay sources entries m job timestamp EndCommitment c is = does-stay _ _ m.jobs c is (λ a. changed-length _ _ m.jobs)
all-stay sources entries m job timestamp Commit c is = does-stay _ _ m.jobs c is (λ a. changed-length _ _ m.jobs)
all-stay sources entries m job timestamp Rollback c is = does-stay _ _ m.jobs c is (λ a. rollback-stays m job timestamp)
all-stay sources entries m job timestamp (OpenFile args) c is = does-stay _ _ m.jobs c is (λ a. changed-length _ _ m.jobs)
all-stay sources entries m job timestamp (CloseFile args) c is = does-stay _ _ m.jobs c is (λ a. changed-length _ _ m.jobs)
all-stay sources entries m job timestamp (SetLowerLimit args) c is = does-stay _ _ m.jobs c is (λ a. changed-length _ _ m.jobs)
all-stay sources entries m job timestamp (SetGreaterThan args) c is = does-stay _ _ m.jobs c is (λ a. changed-length _ _ m.jobs)
all-stay sources entries m job timestamp (Read args) c is = does-stay _ _ m.jobs c is (λ a. changed-length _ _ m.jobs)
all-stay sources entries m job timestamp (ReadPrior args) c is = does-stay _ _ m.jobs c is (λ a. changed-length _ _ m.jobs)
all-stay sources entries m job timestamp (ReadEqual args) c is = does-stay _ _ m.jobs c is (λ a. changed-length _ _ m.jobs)
all-stay sources entries m job timestamp (ReadPriorEqual args) c is = does-stay _ _ m.jobs c is (λ a. changed-length _ _ m.jobs)
all-stay sources entries m job timestamp (Chain args) c is = does-stay _ _ m.jobs c is (λ a. changed-length _ _ m.jobs)
all-stay sources entries m job timestamp (Write args) c is = does-stay _ _ m.jobs c is (λ a. slot-count job a m)
all-stay sources entries m job timestamp (Update args) c is = does-stay _ _ m.jobs c is (update-stays m job timestamp)
all-stay sources entries m job timestamp (Delete args) c is = does-stay _ _ m.jobs c is (delete-stays m job timestamp)
all-stay sources entries m job timestamp (Unlock args) c is = does-stay _ _ m.jobs c is (λ a. changed-length _ _ m.jobs)
all-stay sources entries m job timestamp (EndJob args) c is = let same : end_change m job timestamp ≡ c = cc in subst (λ (x : Change). Stay m.jobs x) same (end-stays m job timestamp)

-- ---- so two places a job and one more are enough, whatever was asked

one-used : (c : Change) → place_used c ≤ 1
one-used c = by (c.forced || has_entries c.entries)
  where
    by : (b : Bool) → (if b then 1 else 0) ≤ 1
    by true = let fact : 1 ≤ 1 = omega arith in fact
    by false = let fact : 0 ≤ 1 = omega arith in fact

pub room-left : (sources : List NamedSource) (entries : List Entry) (m : Memory) (job timestamp : ℕ) (request : Request) (c : Change) → change sources entries m job timestamp request ≡ Ok c
    → places_due c.memory.jobs + place_used c ≤ 2 * length m.jobs + 1
room-left sources entries m job timestamp request c is =
    let count : length c.memory.jobs ≡ length m.jobs = all-stay sources entries m job timestamp request c is in
    let most = due-most c.memory.jobs in
    let one = one-used c in
    omega (arith, count, most, one)
