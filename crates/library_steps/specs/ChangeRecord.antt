-- UPDATE, DELETE and UNLOCK: the current record of an open is changed, goes, or is given up. (Database Programming, "Updating database records",
-- "Deleting database records" and "Releasing record locks".)
use Rattle.std.specs.Prelude.{ℕ, ◌==◌, ◌&&◌, ◌||◌, Bool, not, None, Result, Ok, if◌then◌else◌, unwrap_or}
use Rattle.std.specs.List.{list_any}
use Rattle.logical_model.below.member_slots.specs.declared.slot.Slot.TheVariants.{Live, Deleted}
use Rattle.lock_table.specs.declared.levels.Call.TheVariants.{Update, Delete, Unlock}
use Rattle.lock_table.specs.Lock.{is_of_open_on, is_of_group_on}
use Rattle.library_model.specs.declared.requests.OpenName.{OpenName}
use Rattle.library_model.specs.declared.requests.UpdateRecord.{UpdateRecord}
use Rattle.library_model.specs.declared.replies.Reply.{Reply}
use Rattle.library_model.specs.declared.replies.Reply.TheVariants.{WrongOpen, NoCurrentRecord, HeldToBoundary, Done}
use Rattle.library_steps.specs.State.{Memory, OpenState, with_job, with_opens}
use Rattle.library_steps.specs.Change.{Change, unjournaled, does}
use Rattle.library_steps.specs.Refusals.{◌>>=◌, found, refuse_if, sequences_left, opened_file}
use Rattle.library_steps.specs.Locking.{holder_of, record_of, locks_left, with_locks}
use Rattle.logical_model.specs.Formats.{given_in}
use Rattle.library_steps.specs.LogicalFiles.{bases_of}
use Rattle.library_steps.specs.Records.{live_record, slot_there}
use Rattle.library_steps.specs.UniqueKeys.{keys_free}
use Rattle.library_steps.specs.SlotChange.{NewSlot, not_held, few_changes, slot_change}
use Rattle.library_steps.specs.WriteRecord.{is_input, packed}
use Rattle.library_steps.specs.Reads.{with_opened}

-- ---- UPDATE

unfoldable pub update_plan : Memory → ℕ → UpdateRecord → Result NewSlot Reply
update_plan m job args = do
  _ ← sequences_left m
  its ← opened_file args.open_id job m
  _ ← refuse_if (is_input its.opened.option) WrongOpen
  rrn ← found its.opened.current NoCurrentRecord
  image ← packed (given_in (bases_of m) its.file.spec its.opened.format args.values (live_record its.opened.member rrn m))
  _ ← not_held job its.opened rrn m
  _ ← keys_free job its.opened.commit its.opened.member rrn (slot_there its.opened.member rrn m) image m
  _ ← few_changes its.opened.commit (slot_there its.opened.member rrn m) (Live image) m
  Ok (record { opened = its.opened; rrn = rrn; slot = Live image })

abbrev pub without_current : OpenState → OpenState
without_current opened = record opened { current = None }

abbrev pub update_change : Memory → ℕ → (timestamp : ℕ) → NewSlot → Change
update_change m job timestamp new =
    slot_change job timestamp new Done (λ after. with_opened job new.opened without_current (with_locks (locks_left Update job new.opened new.rrn m) after)) m

abbrev pub update_record : Memory → ℕ → (timestamp : ℕ) → UpdateRecord → Result Change Reply
update_record m job timestamp args = does (update_change m job timestamp) (update_plan m job args)

-- ---- DELETE

unfoldable pub delete_plan : Memory → ℕ → OpenName → Result NewSlot Reply
delete_plan m job args = do
  _ ← sequences_left m
  its ← opened_file args.open_id job m
  _ ← refuse_if (is_input its.opened.option) WrongOpen
  rrn ← found its.opened.current NoCurrentRecord
  _ ← not_held job its.opened rrn m
  _ ← few_changes its.opened.commit (slot_there its.opened.member rrn m) Deleted m
  Ok (record { opened = its.opened; rrn = rrn; slot = Deleted })

-- no open of the job has the record as its current one
abbrev pub is_current : (member rrn : ℕ) → OpenState → Bool
is_current member rrn opened = (opened.member == member) && (unwrap_or opened.current 0 == rrn)

abbrev pub without_record : (member rrn : ℕ) → OpenState → OpenState
without_record member rrn opened = if is_current member rrn opened then without_current opened else opened

abbrev pub delete_change : Memory → ℕ → (timestamp : ℕ) → NewSlot → Change
delete_change m job timestamp new =
    slot_change job timestamp new Done
    (λ after. with_job job (with_opens (without_record new.opened.member new.rrn)) (with_locks (locks_left Delete job new.opened new.rrn m) after)) m

abbrev pub delete_record : Memory → ℕ → (timestamp : ℕ) → OpenName → Result Change Reply
delete_record m job timestamp args = does (delete_change m job timestamp) (delete_plan m job args)

-- ---- UNLOCK

abbrev pub has_open_lock : ℕ → OpenState → (rrn : ℕ) → Memory → Bool
has_open_lock job opened rrn m = list_any (is_of_open_on (holder_of job opened) (record_of opened rrn)) m.locks

abbrev pub has_boundary_lock : ℕ → OpenState → (rrn : ℕ) → Memory → Bool
has_boundary_lock job opened rrn m = list_any (is_of_group_on job (record_of opened rrn)) m.locks

-- a record that is locked: by the open that read it last, or by its job to the boundary
pub record LastRead : Type 0 where
  pub opened : OpenState
  pub rrn : ℕ

unfoldable pub unlock_plan : Memory → ℕ → OpenName → Result LastRead Reply
unlock_plan m job args = do
  its ← opened_file args.open_id job m
  rrn ← found its.opened.last_read NoCurrentRecord
  _ ← refuse_if (not (has_open_lock job its.opened rrn m || has_boundary_lock job its.opened rrn m)) NoCurrentRecord
  _ ← refuse_if (has_boundary_lock job its.opened rrn m) HeldToBoundary
  Ok (record { opened = its.opened; rrn = rrn })

abbrev pub unlock_change : Memory → ℕ → LastRead → Change
unlock_change m job it = unjournaled Done (with_opened job it.opened without_current (with_locks (locks_left Unlock job it.opened it.rrn m) m))

abbrev pub unlock : Memory → ℕ → OpenName → Result Change Reply
unlock m job args = does (unlock_change m job) (unlock_plan m job args)
