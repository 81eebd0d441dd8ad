-- What the requests through an open leave: OPNDBF and CLOF, WRITE, UPDATE, DELETE and UNLOCK, and the reads.
use Rattle.std.proofs.Common.{◌≡◌, ℕ, ◌-◌, Bool, true, false, Result, refl}
use Rattle.journal_model.specs.Rollback.{MemberChange}
use Rattle.logical_model.specs.Readings.{join_in}
use Rattle.library_model.specs.declared.replies.Reply.{Reply}
use Rattle.library_model.specs.declared.requests.OpenFile.{OpenFile}
use Rattle.library_model.specs.declared.requests.OpenName.{OpenName}
use Rattle.library_model.specs.declared.requests.WriteRecord.{WriteRecord}
use Rattle.library_model.specs.declared.requests.UpdateRecord.{UpdateRecord}
use Rattle.library_model.specs.declared.requests.SetPosition.{SetPosition}
use Rattle.library_model.specs.declared.requests.ReadRecord.{ReadRecord}
use Rattle.library_model.specs.declared.requests.ReadEqual.{ReadEqual}
use Rattle.library_model.specs.declared.requests.ChainRecord.{ChainRecord}
use Rattle.library_steps.specs.State.{Memory, OpenState, CycleState, JobState, job_changed, job_of, with_opens, with_status}
use Rattle.library_steps.specs.Opens.{open_plan, with_open, open_file, without_open, close_file}
use Rattle.library_steps.specs.SlotChange.{NewSlot, change_made, cycle_for, noted, touched, slot_changed, with_cycle, with_slot, with_undo}
use Rattle.library_steps.specs.WriteRecord.{write_call, write_plan, write_change, write_record}
use Rattle.library_steps.specs.ChangeRecord.{update_plan, update_change, update_record, without_current, without_record, delete_plan, delete_change, delete_record, unlock_change, unlock_plan, unlock}
use Rattle.library_steps.specs.Reads.{open_changed, NewPosition, positioned, position_change, set_lower_limit, set_greater_than, FoundEntry, has_read, read_change, read, read_prior, read_equal}
use Rattle.library_steps.specs.Reads.{read_prior_equal, chain}
use Rattle.library_core.proofs.ResultLemmas.{Holds, each-holds, does-holds}
use Rattle.library_core.proofs.SpareLemmas.{Spares, SparesIn, spares-all, spares-job, spares-both}

-- ---- opens

pub open_file-spares : (m : Memory) (job : ℕ) (args : OpenFile) → Holds (open_file m job args) (SparesIn m)
open_file-spares m job args =
    does-holds _ (open_plan m job args) (SparesIn m) (each-holds (open_plan m job args) _ (λ members. spares-job job (with_open args members) m.jobs (λ j. refl)))

pub close_file-spares : (m : Memory) (job : ℕ) (args : OpenName) → Holds (close_file m job args) (SparesIn m)
close_file-spares m job args = does-holds _ _ (SparesIn m) (each-holds _ _ (λ opened. spares-job job (without_open args.open_id) m.jobs (λ j. refl)))

-- ---- changes of a record

-- the change in the job's commit cycle, where the open is under commitment
spares-undo : (commit : Bool) (job : ℕ) (undo : MemberChange) (cycle : CycleState) (m : Memory)
    → Spares m.jobs (with_undo commit job undo cycle m).jobs
spares-undo false job undo cycle m = spares-all m.jobs
spares-undo true job undo cycle m = spares-job job (with_cycle (noted undo cycle)) m.jobs (λ j. refl)

-- the slot, its member's status and the commit cycle
spares-slot : (m : Memory) (job : ℕ) (new : NewSlot) → Spares m.jobs (slot_changed job new m).jobs
spares-slot m job new =
    spares-undo new.opened.commit job (change_made m (job_of job m) new) (cycle_for m (job_of job m)) (with_status new.opened.member touched (with_slot new.opened.member new.rrn new.slot m))

-- and then the job's opens
spares-record : (m : Memory) (job : ℕ) (new : NewSlot) (f : JobState → JobState) → ((j : JobState) → (f j).ended ≡ j.ended)
    → Spares m.jobs (job_changed (job - 1) f (slot_changed job new m).jobs)
spares-record m job new f keeps =
    spares-both m.jobs (slot_changed job new m).jobs _ (spares-slot m job new) (spares-job job f (slot_changed job new m).jobs keeps)

pub write_record-spares : (m : Memory) (job timestamp : ℕ) (args : WriteRecord) → Holds (write_record m job timestamp args) (SparesIn m)
write_record-spares m job timestamp args =
    does-holds (write_change m job timestamp (write_call args.record_number)) (write_plan m job args) (SparesIn m) (each-holds (write_plan m job args) _ (λ new. spares-slot m job new))

pub update_record-spares : (m : Memory) (job timestamp : ℕ) (args : UpdateRecord) → Holds (update_record m job timestamp args) (SparesIn m)
update_record-spares m job timestamp args =
    does-holds (update_change m job timestamp) (update_plan m job args) (SparesIn m)
    (each-holds (update_plan m job args) _ (λ new. spares-record m job new (open_changed new.opened.number without_current) (λ j. refl)))

pub delete_record-spares : (m : Memory) (job timestamp : ℕ) (args : OpenName) → Holds (delete_record m job timestamp args) (SparesIn m)
delete_record-spares m job timestamp args =
    does-holds (delete_change m job timestamp) (delete_plan m job args) (SparesIn m)
    (each-holds (delete_plan m job args) _ (λ new. spares-record m job new (with_opens (without_record new.opened.member new.rrn)) (λ j. refl)))

-- ---- changes of an open alone

open-changes : (m : Memory) (job number : ℕ) (f : OpenState → OpenState) → Spares m.jobs (job_changed (job - 1) (open_changed number f) m.jobs)
open-changes m job number f = spares-job job (open_changed number f) m.jobs (λ j. refl)

pub unlock-spares : (m : Memory) (job : ℕ) (args : OpenName) → Holds (unlock m job args) (SparesIn m)
unlock-spares m job args = does-holds (unlock_change m job) (unlock_plan m job args) (SparesIn m) (each-holds _ _ (λ it. open-changes m job it.opened.number without_current))

position-spares : (m : Memory) (job : ℕ) (plan : Result NewPosition Reply) → Holds plan (λ new. SparesIn m (position_change m job new))
position-spares m job plan = each-holds plan _ (λ new. open-changes m job new.its.opened.number (positioned (join_in new.its.file.spec) new.position))

pub set_lower_limit-spares : (m : Memory) (job : ℕ) (args : SetPosition) → Holds (set_lower_limit m job args) (SparesIn m)
set_lower_limit-spares m job args = does-holds (position_change m job) _ (SparesIn m) (position-spares m job _)

pub set_greater_than-spares : (m : Memory) (job : ℕ) (args : SetPosition) → Holds (set_greater_than m job args) (SparesIn m)
set_greater_than-spares m job args = does-holds (position_change m job) _ (SparesIn m) (position-spares m job _)

reading-spares : (m : Memory) (job : ℕ) (plan : Result FoundEntry Reply) → Holds plan (λ it. SparesIn m (read_change m job it))
reading-spares m job plan = each-holds plan _ (λ it. open-changes m job it.opened.number (has_read it.call it.found))

pub read-spares : (m : Memory) (job : ℕ) (args : ReadRecord) → Holds (read m job args) (SparesIn m)
read-spares m job args = does-holds (read_change m job) _ (SparesIn m) (reading-spares m job _)

pub read_prior-spares : (m : Memory) (job : ℕ) (args : ReadRecord) → Holds (read_prior m job args) (SparesIn m)
read_prior-spares m job args = does-holds (read_change m job) _ (SparesIn m) (reading-spares m job _)

pub read_equal-spares : (m : Memory) (job : ℕ) (args : ReadEqual) → Holds (read_equal m job args) (SparesIn m)
read_equal-spares m job args = does-holds (read_change m job) _ (SparesIn m) (reading-spares m job _)

pub read_prior_equal-spares : (m : Memory) (job : ℕ) (args : ReadEqual) → Holds (read_prior_equal m job args) (SparesIn m)
read_prior_equal-spares m job args = does-holds (read_change m job) _ (SparesIn m) (reading-spares m job _)

pub chain-spares : (m : Memory) (job : ℕ) (args : ChainRecord) → Holds (chain m job args) (SparesIn m)
chain-spares m job args = does-holds (read_change m job) _ (SparesIn m) (reading-spares m job _)
