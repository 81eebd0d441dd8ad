-- SETLL, SETGT, READ, READP, READE, READPE and CHAIN: positions and records. (RPG operation codes; Database Programming, "Reading database records".
-- That a refused read leaves position and locks, and that a position set gives up the current record, are our own.)
use Rattle.std.specs.Prelude.{ℕ, ◌==◌, Option, Some, None, Result, Ok, Err, List, [], slice_get, unwrap_or, if◌then◌else◌}
use Rattle.std.specs.Option.{option_map}
use Rattle.logical_model.below.dds_logical.specs.declared.join_views.JoinView.{JoinView}
use Rattle.lock_table.specs.declared.levels.Call.{Call}
use Rattle.lock_table.specs.declared.levels.Call.TheVariants.{InputRead, UpdateRead, Position as PositionCall}
use Rattle.file_model.specs.KeyOrder.{KeyValue}
use Rattle.file_model.specs.Paths.{PathEntry}
use Rattle.file_model.specs.Joins.{RowPlace}
use Rattle.file_model.specs.Positions.{Bound, KeyBound, NumberBound, Position, Start, End, On, Before, Past, Reading, next_from, prior_from, next_equal, prior_equal, chain_key, chain_number}
use Rattle.library_model.specs.declared.requests.OpenOption.{OpenOption}
use Rattle.library_model.specs.declared.requests.OpenOption.TheVariants.{Input, All}
use Rattle.library_model.specs.declared.requests.LockOption.{LockOption}
use Rattle.library_model.specs.declared.requests.LockOption.TheVariants.{Default, No}
use Rattle.library_model.specs.declared.requests.Limit.{Limit}
use Rattle.library_model.specs.declared.requests.Limit.TheVariants as limits
use Rattle.library_model.specs.declared.requests.SetPosition.{SetPosition}
use Rattle.library_model.specs.declared.requests.ReadRecord.{ReadRecord}
use Rattle.library_model.specs.declared.requests.ReadEqual.{ReadEqual}
use Rattle.library_model.specs.declared.requests.ChainTo.{ChainTo}
use Rattle.library_model.specs.declared.requests.ChainTo.TheVariants.{Key, RecordNumber}
use Rattle.library_model.specs.declared.requests.ChainRecord.{ChainRecord}
use Rattle.library_model.specs.declared.replies.RecordRead.{RecordRead}
use Rattle.library_model.specs.declared.replies.Reply.{Reply}
use Rattle.library_model.specs.declared.replies.Reply.TheVariants.{EndOfFile, BeginOfFile, NotFound, WrongOpen, Record, Done}
use Rattle.library_steps.specs.State.{Memory, FileState, OpenState, JobState, with_job, with_opens}
use Rattle.library_steps.specs.Change.{Change, unjournaled, does}
use Rattle.library_steps.specs.Refusals.{◌>>=◌, found, OpenedFile, opened_file}
use Rattle.library_steps.specs.Locking.{locks_left, with_locks, not_locked, few_locks}
use Rattle.logical_model.specs.Formats.{Shown, shown_in}
use Rattle.logical_model.specs.Readings.{join_in, rows_reading}
use Rattle.library_steps.specs.LogicalFiles.{bases_of}
use Rattle.library_steps.specs.Records.{is_keyed, reading_of, key_asked, number_asked, live_record}

-- the job with a change of the open of this number
abbrev pub open_changed : ℕ → (OpenState → OpenState) → JobState → JobState
open_changed number change job = with_opens (λ opened. if opened.number == number then change opened else opened) job

abbrev pub with_opened : ℕ → OpenState → (OpenState → OpenState) → Memory → Memory
with_opened job opened change m = with_job job (open_changed opened.number change) m

-- the open, where it reads a record of a format
abbrev pub at_format : ℕ → OpenState → OpenState
at_format number opened = record opened { format = number; member = unwrap_or (slice_get opened.members number) opened.member }

-- a position that is set, among the rows of a join
abbrev pub as_rows : Position PathEntry → Position RowPlace
as_rows Start = Start
as_rows End = End
as_rows (On entry) = On (record { primary = entry; matches = [] })
as_rows (Before bound) = Before bound
as_rows (Past bound) = Past bound

-- the open of a join stands among its rows, any other among the entries of its path
abbrev pub standing : Option JoinView → Position PathEntry → OpenState → OpenState
standing None position opened = record opened { position = position }
standing (Some view) position opened = record opened { rows = as_rows position }

-- ---- SETLL and SETGT

abbrev pub whole_end : OpenedFile → Position PathEntry → Result (Position PathEntry) Reply
whole_end its end = if is_keyed its.file its.opened then Ok end else Err WrongOpen

abbrev pub bound_asked : OpenedFile → (Bound → Position PathEntry) → Limit → Result (Position PathEntry) Reply
bound_asked its side (limits.Key values) = do
  key ← key_asked its.file its.opened values
  Ok (side (KeyBound key))
bound_asked its side limits.LowValue = whole_end its Start
bound_asked its side limits.HighValue = whole_end its End
bound_asked its side (limits.RecordNumber rrn) = do
  number ← number_asked its.file its.opened rrn
  Ok (side (NumberBound number))

-- an open, and where it is to stand
pub record NewPosition : Type 0 where
  pub its : OpenedFile
  pub position : Position PathEntry

unfoldable pub position_plan : (Bound → Position PathEntry) → Memory → ℕ → SetPosition → Result NewPosition Reply
position_plan side m job args = do
  its ← opened_file args.open_id job m
  position ← bound_asked its side args.to
  Ok (record { its = its; position = position })

abbrev pub positioned : Option JoinView → Position PathEntry → OpenState → OpenState
positioned join position opened = record (standing join position opened) { current = None; last_read = None }

abbrev pub position_change : Memory → ℕ → NewPosition → Change
position_change m job new =
    unjournaled Done
    (with_opened job new.its.opened (positioned (join_in new.its.file.spec) new.position) (with_locks (locks_left PositionCall job new.its.opened 0 m) m))

-- before the first entry that isn't less
abbrev pub set_lower_limit : Memory → ℕ → SetPosition → Result Change Reply
set_lower_limit m job args = does (position_change m job) (position_plan Before m job args)

-- past the last entry that isn't greater
abbrev pub set_greater_than : Memory → ℕ → SetPosition → Result Change Reply
set_greater_than m job args = does (position_change m job) (position_plan Past m job args)

-- ---- the reads

abbrev pub default_read : OpenOption → Call
default_read Input = InputRead
default_read All = UpdateRead

-- a read for update, or for input alone
abbrev pub read_call : LockOption → OpenState → Call
read_call Default opened = default_read opened.option
read_call No opened = InputRead

-- what a read finds: an entry of a path, or the row of a join, whose entry is its primary's
pub record Found : Type 0 where
  pub entry : PathEntry
  pub row : Option RowPlace

abbrev pub entry_found : PathEntry → Found
entry_found entry = record { entry = entry; row = None }

abbrev pub row_found : RowPlace → Found
row_found place = record { entry = place.primary; row = Some place }

-- by its own way of finding among entries, and among rows
abbrev pub find_by : Option JoinView → OpenedFile → Memory → (Reading PathEntry → Option PathEntry) → (Reading RowPlace → Option RowPlace) → Option Found
find_by None its m find_entry find_row = option_map entry_found (find_entry (reading_of its.file its.opened m))
find_by (Some view) its m find_entry find_row = option_map row_found (find_row (rows_reading (bases_of m) view m.members))

abbrev pub find_in : OpenedFile → Memory → (Reading PathEntry → Option PathEntry) → (Reading RowPlace → Option RowPlace) → Option Found
find_in its m find_entry find_row = find_by (join_in its.file.spec) its m find_entry find_row

-- what was found by a read, through the open where it reads a record of that format
pub record FoundEntry : Type 0 where
  pub file : FileState
  pub opened : OpenState
  pub call : Call
  pub found : Found

-- what was found, where no other job's lock is in the way
abbrev pub lockable : ℕ → Memory → FileState → OpenState → LockOption → Found → Result FoundEntry Reply
lockable job m file opened lock it = do
  _ ← not_locked (read_call lock opened) job opened it.entry.rrn m
  _ ← few_locks (read_call lock opened) job opened it.entry.rrn m
  Ok (record { file = file; opened = opened; call = read_call lock opened; found = it })

abbrev pub if_lockable : ℕ → Memory → OpenedFile → LockOption → Found → Result FoundEntry Reply
if_lockable job m its lock it = lockable job m its.file (at_format it.entry.format its.opened) lock it

-- a read for update makes the record the current one
abbrev pub current_after : Call → (rrn : ℕ) → Option ℕ
current_after UpdateRead rrn = Some rrn
current_after _ rrn = None

abbrev pub stands_on : PathEntry → Option RowPlace → OpenState → OpenState
stands_on entry None opened = record opened { position = On entry }
stands_on entry (Some place) opened = record opened { rows = On place }

abbrev pub has_read : Call → Found → OpenState → OpenState
has_read call it opened =
    record (stands_on it.entry it.row (at_format it.entry.format opened)) { current = current_after call it.entry.rrn; last_read = Some it.entry.rrn }

abbrev pub read_as : (rrn : ℕ) → Shown → RecordRead
read_as rrn shown = record { format = shown.format; rrn = rrn; values = shown.values }

abbrev pub record_shown : Memory → FoundEntry → RecordRead
record_shown m it =
    read_as it.found.entry.rrn
    (shown_in (bases_of m) m.members it.file.spec it.opened.format (unwrap_or (live_record it.opened.member it.found.entry.rrn m) []) it.found.row)

abbrev pub read_change : Memory → ℕ → FoundEntry → Change
read_change m job it =
    unjournaled (Record (record_shown m it))
    (with_opened job it.opened (has_read it.call it.found) (with_locks (locks_left it.call job it.opened it.found.entry.rrn m) m))

unfoldable pub read_plan : (Reading PathEntry → Position PathEntry → Option PathEntry) → (Reading RowPlace → Position RowPlace → Option RowPlace) → Reply → Memory → ℕ → ReadRecord → Result FoundEntry Reply
read_plan entry_from row_from nothing m job args = do
  its ← opened_file args.open_id job m
  it ← found (find_in its m (λ reading. entry_from reading its.opened.position) (λ reading. row_from reading its.opened.rows)) nothing
  if_lockable job m its args.lock it

abbrev pub read : Memory → ℕ → ReadRecord → Result Change Reply
read m job args = does (read_change m job) (read_plan next_from next_from EndOfFile m job args)

abbrev pub read_prior : Memory → ℕ → ReadRecord → Result Change Reply
read_prior m job args = does (read_change m job) (read_plan prior_from prior_from BeginOfFile m job args)

unfoldable pub read_equal_plan : (Reading PathEntry → List KeyValue → Position PathEntry → Option PathEntry) → (Reading RowPlace → List KeyValue → Position RowPlace → Option RowPlace) → Reply → Memory → ℕ → ReadEqual → Result FoundEntry Reply
read_equal_plan entry_from row_from nothing m job args = do
  its ← opened_file args.open_id job m
  key ← key_asked its.file its.opened args.key
  it ← found (find_in its m (λ reading. entry_from reading key its.opened.position) (λ reading. row_from reading key its.opened.rows)) nothing
  if_lockable job m its args.lock it

abbrev pub read_equal : Memory → ℕ → ReadEqual → Result Change Reply
read_equal m job args = does (read_change m job) (read_equal_plan next_equal next_equal EndOfFile m job args)

abbrev pub read_prior_equal : Memory → ℕ → ReadEqual → Result Change Reply
read_prior_equal m job args = does (read_change m job) (read_equal_plan prior_equal prior_equal BeginOfFile m job args)

-- the first entry of a key, or the record of a number
abbrev pub chained : OpenedFile → Memory → ChainTo → Result (Option Found) Reply
chained its m (Key values) = do
  key ← key_asked its.file its.opened values
  Ok (find_in its m (λ reading. chain_key reading key) (λ reading. chain_key reading key))
chained its m (RecordNumber rrn) = do
  number ← number_asked its.file its.opened rrn
  Ok (find_in its m (λ reading. chain_number reading number) (λ reading. chain_number reading number))

unfoldable pub chain_plan : Memory → ℕ → ChainRecord → Result FoundEntry Reply
chain_plan m job args = do
  its ← opened_file args.open_id job m
  item ← chained its m args.to
  it ← found item NotFound
  if_lockable job m its args.lock it

abbrev pub chain : Memory → ℕ → ChainRecord → Result Change Reply
chain m job args = does (read_change m job) (chain_plan m job args)
