-- What the requests through an open leave of the open commit cycles that change no record: OPNDBF and CLOF, UNLOCK, positions and reads.
use Rattle.std.proofs.Common.{ℕ, ◌-◌, Option, List, Result, refl}
use Rattle.file_model.specs.KeyOrder.{KeyValue}
use Rattle.file_model.specs.Joins.{RowPlace}
use Rattle.file_model.specs.Paths.{PathEntry}
use Rattle.file_model.specs.Positions.{Position, Reading, next_from, prior_from, next_equal, prior_equal}
use Rattle.logical_model.specs.Readings.{join_in}
use Rattle.lock_table.specs.declared.levels.Call.{Call}
use Rattle.lock_table.specs.declared.levels.Call.TheVariants.{Close, Position as PositionCall, Unlock}
use Rattle.lock_table.specs.Table.{HoldsChange}
use Rattle.library_model.specs.declared.replies.Reply.{Reply}
use Rattle.library_model.specs.declared.replies.Reply.TheVariants.{EndOfFile, BeginOfFile, NotFound}
use Rattle.library_model.specs.declared.requests.ChainRecord.{ChainRecord}
use Rattle.library_model.specs.declared.requests.LockOption.{LockOption}
use Rattle.library_model.specs.declared.requests.LockOption.TheVariants.{Default, No}
use Rattle.library_model.specs.declared.requests.OpenFile.{OpenFile}
use Rattle.library_model.specs.declared.requests.OpenName.{OpenName}
use Rattle.library_model.specs.declared.requests.OpenOption.{OpenOption}
use Rattle.library_model.specs.declared.requests.OpenOption.TheVariants.{Input, All}
use Rattle.library_model.specs.declared.requests.ReadEqual.{ReadEqual}
use Rattle.library_model.specs.declared.requests.ReadRecord.{ReadRecord}
use Rattle.library_model.specs.declared.requests.SetPosition.{SetPosition}
use Rattle.library_steps.specs.State.{State, Memory, FileState, OpenState, memory_of, job_of}
use Rattle.library_steps.specs.ChangeRecord.{unlock, unlock_change, unlock_plan, without_current}
use Rattle.library_steps.specs.Locking.{few_locks, holder_of, is_committed, level_of, locks_left, not_locked, record_of}
use Rattle.library_steps.specs.Opens.{close_file, open_file, open_plan, with_open, without_open}
use Rattle.library_steps.specs.Reads.{Found, FoundEntry, NewPosition, at_format, chain, chain_plan, chained, default_read, find_in, has_read, if_lockable, lockable, open_changed, position_change, positioned, read, read_call, read_change, read_equal, read_equal_plan, read_plan, read_prior, read_prior_equal, set_greater_than, set_lower_limit}
use Rattle.library_steps.specs.Records.{key_asked}
use Rattle.library_steps.specs.Refusals.{OpenedFile, found, opened_file}
use Rattle.joint_state.specs.Calls.{IsOfOpen}
use Rattle.cycles_kept.proofs.CycleLemmas.{HaveCycles, besides}
use Rattle.cycles_kept.proofs.HoldLemmas.{Holds, does-holds, effect-holds, then-holds, wider-holds}
use Rattle.cycles_kept.proofs.LockLemmas.{open-keeps}

-- a call through an open spares the change locks of all jobs
left-keeps : (s : State) (call : Call) (job : ℕ) (opened : OpenState) (rrn number : ℕ) → IsOfOpen call
    → (at : _) → HoldsChange number at s.locks → HoldsChange number at (locks_left call job opened rrn (memory_of s))
left-keeps s call job opened rrn number of at holds =
    open-keeps call (level_of (job_of job (memory_of s)) opened) (holder_of job opened) (record_of opened rrn) (is_committed (job_of job (memory_of s))) number at s.locks of holds

-- ---- opens

pub open_file-cycles : (s : State) (job : ℕ) (args : OpenFile) → Holds (open_file (memory_of s) job args) (HaveCycles s)
open_file-cycles s job args =
    effect-holds _ (open_plan (memory_of s) job args) (HaveCycles s) (λ members. besides s _ (job - 1) (with_open args members) refl (λ j. refl) refl (λ number at holds. holds))

pub close_file-cycles : (s : State) (job : ℕ) (args : OpenName) → Holds (close_file (memory_of s) job args) (HaveCycles s)
close_file-cycles s job args =
    effect-holds _ _ (HaveCycles s) (λ opened. besides s _ (job - 1) (without_open args.open_id) refl (λ j. refl) refl (λ number. left-keeps s Close job opened 0 number tt))

pub unlock-cycles : (s : State) (job : ℕ) (args : OpenName) → Holds (unlock (memory_of s) job args) (HaveCycles s)
unlock-cycles s job args =
    effect-holds (unlock_change (memory_of s) job) (unlock_plan (memory_of s) job args) (HaveCycles s)
    (λ it. besides s (unlock_change (memory_of s) job it) (job - 1) (open_changed it.opened.number without_current) refl (λ j. refl) refl
    (λ number. left-keeps s Unlock job it.opened it.rrn number tt))

-- ---- positions

position-cycles : (s : State) (job : ℕ) (new : NewPosition) → HaveCycles s (position_change (memory_of s) job new)
position-cycles s job new =
    besides s (position_change (memory_of s) job new) (job - 1) (open_changed new.its.opened.number (positioned (join_in new.its.file.spec) new.position)) refl (λ j. refl) refl
    (λ number. left-keeps s PositionCall job new.its.opened 0 number tt)

pub set_lower_limit-cycles : (s : State) (job : ℕ) (args : SetPosition) → Holds (set_lower_limit (memory_of s) job args) (HaveCycles s)
set_lower_limit-cycles s job args = effect-holds (position_change (memory_of s) job) _ (HaveCycles s) (position-cycles s job)

pub set_greater_than-cycles : (s : State) (job : ℕ) (args : SetPosition) → Holds (set_greater_than (memory_of s) job args) (HaveCycles s)
set_greater_than-cycles s job args = effect-holds (position_change (memory_of s) job) _ (HaveCycles s) (position-cycles s job)

-- ---- reads

abbrev IsRead : FoundEntry → Type 0
IsRead it = IsOfOpen it.call

reads : (lock : LockOption) (opened : OpenState) → IsOfOpen (read_call lock opened)
reads Default opened = by opened.option
  where
    by : (option : OpenOption) → IsOfOpen (default_read option)
    by Input = tt
    by All = tt
reads No opened = tt

-- through the open where it is at the format of what was found
lockable-reads : (job : ℕ) (m : Memory) (file : FileState) (opened : OpenState) (lock : LockOption) (it : Found) → Holds (lockable job m file opened lock it) IsRead
lockable-reads job m file opened lock it =
    then-holds (not_locked (read_call lock opened) job opened it.entry.rrn m) _ _ (λ free.
    then-holds (few_locks (read_call lock opened) job opened it.entry.rrn m) _ _ (λ few.
    record { holds = reads lock opened }))

format-reads : (job : ℕ) (m : Memory) (its : OpenedFile) (lock : LockOption) (it : Found) → Holds (if_lockable job m its lock it) IsRead
format-reads job m its lock it = lockable-reads job m its.file (at_format it.entry.format its.opened) lock it

plan-reads : (entry_from : Reading PathEntry → Position PathEntry → Option PathEntry) (row_from : Reading RowPlace → Position RowPlace → Option RowPlace) (nothing : Reply) (m : Memory) (job : ℕ)
    (args : ReadRecord) → Holds (read_plan entry_from row_from nothing m job args) IsRead
unfolding read_plan
plan-reads entry_from row_from nothing m job args =
    then-holds (opened_file args.open_id job m) _ _ (λ its.
    then-holds (found (find_in its m (λ reading. entry_from reading its.opened.position) (λ reading. row_from reading its.opened.rows)) nothing) _ _ (λ it. format-reads job m its args.lock it))

equal-reads : (entry_from : Reading PathEntry → List KeyValue → Position PathEntry → Option PathEntry) (row_from : Reading RowPlace → List KeyValue → Position RowPlace → Option RowPlace)
    (nothing : Reply) (m : Memory) (job : ℕ) (args : ReadEqual) → Holds (read_equal_plan entry_from row_from nothing m job args) IsRead
unfolding read_equal_plan
equal-reads entry_from row_from nothing m job args =
    then-holds (opened_file args.open_id job m) _ _ (λ its.
    then-holds (key_asked its.file its.opened args.key) _ _ (λ key.
    then-holds (found (find_in its m (λ reading. entry_from reading key its.opened.position) (λ reading. row_from reading key its.opened.rows)) nothing) _ _
    (λ it. format-reads job m its args.lock it)))

chain-reads : (m : Memory) (job : ℕ) (args : ChainRecord) → Holds (chain_plan m job args) IsRead
unfolding chain_plan
chain-reads m job args =
    then-holds (opened_file args.open_id job m) _ _ (λ its.
    then-holds (chained its m args.to) _ _ (λ item.
    then-holds (found item NotFound) _ _ (λ it. format-reads job m its args.lock it)))

reading-cycles : (s : State) (job : ℕ) (plan : Result FoundEntry Reply) → Holds plan IsRead → Holds plan (λ it. HaveCycles s (read_change (memory_of s) job it))
reading-cycles s job plan is =
    wider-holds plan IsRead _
    (λ it of. besides s (read_change (memory_of s) job it) (job - 1) (open_changed it.opened.number (has_read it.call it.found)) refl (λ j. refl) refl
    (λ number. left-keeps s it.call job it.opened it.found.entry.rrn number of)) is

module _ (s : State) (job : ℕ) where
  pub read-cycles : (args : ReadRecord) → Holds (read (memory_of s) job args) (HaveCycles s)
  read-cycles args =
      does-holds (read_change (memory_of s) job) _ (HaveCycles s)
      (reading-cycles s job (read_plan next_from next_from EndOfFile (memory_of s) job args) (plan-reads next_from next_from EndOfFile (memory_of s) job args))

  pub read_prior-cycles : (args : ReadRecord) → Holds (read_prior (memory_of s) job args) (HaveCycles s)
  read_prior-cycles args =
      does-holds (read_change (memory_of s) job) _ (HaveCycles s)
      (reading-cycles s job (read_plan prior_from prior_from BeginOfFile (memory_of s) job args) (plan-reads prior_from prior_from BeginOfFile (memory_of s) job args))

  pub read_equal-cycles : (args : ReadEqual) → Holds (read_equal (memory_of s) job args) (HaveCycles s)
  read_equal-cycles args =
      does-holds (read_change (memory_of s) job) _ (HaveCycles s)
      (reading-cycles s job (read_equal_plan next_equal next_equal EndOfFile (memory_of s) job args) (equal-reads next_equal next_equal EndOfFile (memory_of s) job args))

  pub read_prior_equal-cycles : (args : ReadEqual) → Holds (read_prior_equal (memory_of s) job args) (HaveCycles s)
  read_prior_equal-cycles args =
      does-holds (read_change (memory_of s) job) _ (HaveCycles s)
      (reading-cycles s job (read_equal_plan prior_equal prior_equal BeginOfFile (memory_of s) job args) (equal-reads prior_equal prior_equal BeginOfFile (memory_of s) job args))

  pub chain-cycles : (args : ChainRecord) → Holds (chain (memory_of s) job args) (HaveCycles s)
  chain-cycles args = does-holds (read_change (memory_of s) job) _ (HaveCycles s) (reading-cycles s job (chain_plan (memory_of s) job args) (chain-reads (memory_of s) job args))
