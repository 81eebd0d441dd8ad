-- What the plan of a request hands on to its effect, and the change that the effect makes of it. (Our own.)
use Rattle.std.specs.Prelude.{◌≡◌, ℕ, ◌≤◌, true, Option, None, Some, IfSome, is_some, Result, Ok, Err, is_ok, List, [], length, unwrap_or}
use Rattle.lock_table.specs.declared.lock.Lock.{Lock}
use Rattle.lock_table.specs.declared.lock.Holder.{Holder}
use Rattle.lock_table.specs.declared.lock.RecordId.{RecordId}
use Rattle.lock_table.specs.declared.levels.Call.{Call}
use Rattle.lock_table.specs.declared.table.TheConstants.{MOST_LOCKS}
use Rattle.lock_table.specs.Levels.{asked, locks_after}
use Rattle.lock_table.specs.Table.{blocker}
use Rattle.file_model.specs.Paths.{PathEntry}
use Rattle.file_model.specs.Positions.{Bound, Position}
use Rattle.logical_model.specs.Formats.{shown_in}
use Rattle.open_position.specs.Reads.{side_of}
use Rattle.open_position.specs.declared.position.Side.{Side}
use Rattle.library_model.specs.declared.requests.SetPosition.{SetPosition}
use Rattle.library_model.specs.declared.requests.ReadRecord.{ReadRecord}
use Rattle.library_model.specs.declared.requests.ReadEqual.{ReadEqual}
use Rattle.library_model.specs.declared.requests.ChainTo.{ChainTo}
use Rattle.library_model.specs.declared.requests.LockOption.{LockOption}
use Rattle.library_model.specs.declared.replies.RecordRead.{RecordRead}
use Rattle.library_model.specs.declared.replies.Reply.{Reply}
use Rattle.library_model.specs.declared.replies.Reply.TheVariants.{NotFound, Record}
use Rattle.library_steps.specs.State.{State, Memory, FileState, OpenState, job_of, memory_of, with_job}
use Rattle.library_steps.specs.Change.{Change, unjournaled, does}
use Rattle.library_steps.specs.LogicalFiles.{bases_of}
use Rattle.library_steps.specs.Refusals.{◌>>=◌, found, OpenedFile, opened_file}
use Rattle.library_steps.specs.Records.{live_record}
use Rattle.library_steps.specs.Locking.{level_of, is_committed, with_locks, not_locked, few_locks}
use Rattle.library_steps.specs.Reads.{Found, entry_found, row_found, open_changed, bound_asked, position_plan, position_change, read_call, read_as, has_read}
use Rattle.library_steps.specs.Reads.{read_plan, read_equal_plan, read_change, if_lockable, chained}
use Rattle.library_parts.below.parts_model.specs.declared.stop.Stop.{Stop}
use Rattle.library_parts.below.parts_model.specs.declared.stop.Stop.TheVariants.{NoMemory, Refused}
use Rattle.library_parts.specs.Indexed.{IsUnjoined, IsViewBeside}
use Rattle.lawful_states.specs.Calls.{IsRead}
use Rattle.record_reads.specs.Asked.{found_through, CanBeAsked, nothing_found, any_from, equal_from, end_in}
use Rattle.record_reads.specs.declared.asked.AskedBy.{AskedBy}
use Rattle.record_reads.specs.declared.asked.Direction.{Direction}
use Rattle.record_reads.specs.declared.plans.UsedOpen.{UsedOpen}
use Rattle.record_reads.specs.declared.plans.PlannedRead.{PlannedRead}
use Rattle.record_reads.specs.declared.plans.FoundRead.{FoundRead}
use Rattle.dds_logical.specs.declared.join_views.JoinView.{JoinView}
use Rattle.dds_logical.specs.declared.views.LogicalSpec.TheVariants.{Join}
use Rattle.file_model.specs.Joins.{RowPlace}
use Rattle.logical_model.specs.Bases.{FileSpec, LogicalFile}
use Rattle.library_parts.specs.Finds.{ReadsMember}
use Rattle.library_parts.specs.Rows.{IsRowAt}
use Rattle.library_parts.below.parts_model.specs.declared.rows.RowFound.{RowFound}
use Rattle.record_reads.specs.declared.plans.FoundAt.{FoundAt}

-- ---- the open

abbrev pub opened_with : OpenState → FileState → OpenedFile
opened_with opened file = record { opened = opened; file = file }

abbrev pub used_of : (job : ℕ) → OpenState → Memory → UsedOpen
used_of job opened m = record { number = opened.number; member = opened.member; level = level_of (job_of job m) opened }

abbrev pub holder_through : (job : ℕ) → UsedOpen → Holder
holder_through job used = record { job = job; opened = used.number }

abbrev pub record_through : UsedOpen → (rrn : ℕ) → RecordId
record_through used rrn = record { member = used.member; rrn = rrn }

-- the locks once a call through it is OK
abbrev pub locks_through : Call → (job : ℕ) → UsedOpen → (rrn : ℕ) → Memory → List Lock
locks_through call job used rrn m =
    locks_after call used.level (holder_through job used) (record_through used rrn) (is_committed (job_of job m)) m.locks

-- ---- positions

-- SETLL or SETGT
abbrev pub position_set : Side → Memory → (job : ℕ) → SetPosition → Result Change Reply
position_set side m job args = does (position_change m job) (position_plan (side_of side) m job args)

-- the open that the request names, which can stand there
pub record CanBeSet (m : Memory) (job : ℕ) (args : SetPosition) (used : UsedOpen) : Type 0 where
  pub its : OpenedFile
  pub opened : opened_file args.open_id job m ≡ Ok its
  pub place : (side : Bound → Position PathEntry) → is_ok (bound_asked its side args.to) ≡ true
  pub same : used ≡ used_of job its.opened m

-- the open can be set, or there is a refusal, whichever side is wanted; memory is never short
abbrev pub PlansPosition : Memory → (job : ℕ) → SetPosition → Result UsedOpen Stop → Type 0
PlansPosition m job args (Ok used) = CanBeSet m job args used
PlansPosition m job args (Err NoMemory) = ⊥
PlansPosition m job args (Err (Refused reply)) = (side : Side) → position_set side m job args ≡ Err reply

-- ---- reads

-- READ or READP
abbrev pub read_from : Direction → Memory → (job : ℕ) → ReadRecord → Result Change Reply
read_from direction m job args =
    does (read_change m job) (read_plan (any_from direction) (any_from direction) (end_in direction) m job args)

-- READE or READPE
abbrev pub read_equal_from : Direction → Memory → (job : ℕ) → ReadEqual → Result Change Reply
read_equal_from direction m job args =
    does (read_change m job) (read_equal_plan (equal_from direction) (equal_from direction) (end_in direction) m job args)

-- the read of what the open finds by this
abbrev pub read_found : Memory → (job : ℕ) → OpenedFile → LockOption → AskedBy → Result Change Reply
read_found m job its lock by =
    does (read_change m job) (found (found_through by its.file its.opened m) (nothing_found by) >>= λ it. if_lockable job m its lock it)

-- by what CHAIN finds its record through the open, or its refusal
pub record AsksChain (m : Memory) (its : OpenedFile) (to : ChainTo) (by : AskedBy) : Type 0 where
  pub asked : CanBeAsked by its.file its.opened m
  pub chains : chained its m to ≡ Ok (found_through by its.file its.opened m)
  pub none : nothing_found by ≡ NotFound

abbrev pub AsksOf : Memory → OpenedFile → ChainTo → Result AskedBy Stop → Type 0
AsksOf m its to (Ok by) = AsksChain m its to by
AsksOf m its to (Err NoMemory) = Unit {0}
AsksOf m its to (Err (Refused reply)) = chained its m to ≡ Err reply

-- ---- what is found

-- an entry of a path or of arrival order
pub record IsEntry (spec : FileSpec) (it : Found) : Type 0 where
  pub unjoined : IsUnjoined spec
  pub is : it ≡ entry_found it.entry

-- the row of a join at its place
pub record IsRow (m : Memory) (spec : FileSpec) (told : RowFound) (it : Found) : Type 0 where
  pub view : JoinView
  pub join : spec ≡ LogicalFile (Join view)
  pub place : RowPlace
  pub is : it ≡ row_found place
  pub row : IsRowAt view m place told

abbrev pub IsOfRow : Memory → FileSpec → Option RowFound → Found → Type 0
IsOfRow m spec None it = IsEntry spec it
IsOfRow m spec (Some row) it = IsRow m spec row it

pub record IsFoundAt (m : Memory) (its : OpenedFile) (by : AskedBy) (at : FoundAt) : Type 0 where
  pub it : Found
  pub finds : found_through by its.file its.opened m ≡ Some it
  pub rrn : it.entry.rrn ≡ at.rrn
  pub format : it.entry.format ≡ at.format
  pub row : IsOfRow m its.file.spec at.row it

-- what the open finds, or nothing
abbrev pub FindsAt : Memory → OpenedFile → AskedBy → Result FoundAt Stop → Type 0
FindsAt m its by (Ok at) = IsFoundAt m its by at
FindsAt m its by (Err NoMemory) = Unit {0}
FindsAt m its by (Err (Refused reply)) = (found_through by its.file its.opened m ≡ None) × (nothing_found by ≡ reply)

-- a record of that number of the member is there, of which the file shows something through the format at which the open is
pub record CanShow (s : State) (file : FileState) (opened : OpenState) (rrn : ℕ) : Type 0 where
  pub member : ReadsMember s file opened
  pub unjoined : IsUnjoined file.spec
  pub view : IsViewBeside s.files file.spec
  pub live : is_some (live_record opened.member rrn (memory_of s)) ≡ true

-- ---- the plan

-- what the format at which the open is shows of a record of its member, or a join of a row
abbrev pub record_shown : Memory → FileState → OpenState → (rrn : ℕ) → Option RowPlace → RecordRead
record_shown m file opened rrn row = read_as rrn (shown_in (bases_of m) m.members file.spec opened.format (unwrap_or (live_record opened.member rrn m) []) row)

-- the read of a record through the open, where the locks allow it
abbrev pub record_planned : Memory → (job : ℕ) → OpenedFile → LockOption → (rrn : ℕ) → Option RowPlace → Result PlannedRead Reply
record_planned m job its lock rrn row = do
  _ ← not_locked (read_call lock its.opened) job its.opened rrn m
  _ ← few_locks (read_call lock its.opened) job its.opened rrn m
  Ok (record { used = used_of job its.opened m; call = read_call lock its.opened; rrn = rrn; shown = record_shown m its.file its.opened rrn row })

-- the change that reads what was found
abbrev pub planned_change : Memory → (job : ℕ) → PlannedRead → Found → Change
planned_change m job plan it =
    unjournaled (Record plan.shown)
    (with_job job (open_changed plan.used.number (has_read plan.call it)) (with_locks (locks_through plan.call job plan.used plan.rrn m) m))

-- the locks allow the read
pub record MayLock (m : Memory) (job : ℕ) (plan : PlannedRead) : Type 0 where
  pub call : IsRead plan.call
  pub unlocked : IfSome (asked plan.call plan.used.level) (λ wanted. blocker job (record_through plan.used plan.rrn) wanted.kind m.locks ≡ None)
  pub few : length (locks_through plan.call job plan.used plan.rrn m) ≤ MOST_LOCKS

-- the open finds something by this, whose read is what is wanted
pub record IsFoundRead (m : Memory) (job : ℕ) (its : OpenedFile) (wanted : Result Change Reply) (plan : FoundRead) : Type 0 where
  pub asked : CanBeAsked plan.by its.file its.opened m
  pub it : Found
  pub finds : found_through plan.by its.file its.opened m ≡ Some it
  pub row : IsOfRow m its.file.spec plan.row it
  pub change : wanted ≡ Ok (planned_change m job plan.read it)
  pub number : plan.read.used.number ≡ its.opened.number
  pub lock : MayLock m job plan.read

abbrev pub PlansFound : Memory → (job : ℕ) → OpenedFile → Result Change Reply → Result FoundRead Stop → Type 0
PlansFound m job its wanted (Ok plan) = IsFoundRead m job its wanted plan
PlansFound m job its wanted (Err NoMemory) = Unit {0}
PlansFound m job its wanted (Err (Refused reply)) = wanted ≡ Err reply

-- the job's open of this name finds something by this, which can be read as planned
pub record CanRead (m : Memory) (job : ℕ) (name : List ℕ) (by : AskedBy) (plan : PlannedRead) (told : Option RowFound) : Type 0 where
  pub its : OpenedFile
  pub opened : opened_file name job m ≡ Ok its
  pub asked : CanBeAsked by its.file its.opened m
  pub it : Found
  pub finds : found_through by its.file its.opened m ≡ Some it
  pub row : IsOfRow m its.file.spec told it
  pub number : plan.used.number ≡ its.opened.number
  pub lock : MayLock m job plan

-- the read of what it finds is what is wanted
abbrev pub IsWanted : Memory → (job : ℕ) → (name : List ℕ) → AskedBy → PlannedRead → Result Change Reply → Type 0
IsWanted m job name by plan wanted =
    (its : OpenedFile) (it : Found) → opened_file name job m ≡ Ok its → found_through by its.file its.opened m ≡ Some it → wanted ≡ Ok (planned_change m job plan it)

pub record IsRequested (m : Memory) (job : ℕ) (name : List ℕ) (wanted : Result Change Reply) (plan : FoundRead) : Type 0 where
  pub can : CanRead m job name plan.by plan.read plan.row
  pub leads : IsWanted m job name plan.by plan.read wanted

-- the plan of a request through the job's open of this name, or the first refusal that holds
abbrev pub Plans : Memory → (job : ℕ) → (name : List ℕ) → Result Change Reply → Result FoundRead Stop → Type 0
Plans m job name wanted (Ok plan) = IsRequested m job name wanted plan
Plans m job name wanted (Err NoMemory) = Unit {0}
Plans m job name wanted (Err (Refused reply)) = wanted ≡ Err reply
