-- OPNDBF and CLOF: an open of a member under a name of the job's own. (CL reference, OPNDBF, CLOF; Database Programming, "Opening a database file".)
use Rattle.std.specs.Prelude.{ℕ, ◌+◌, ◌||◌, nat_le, Option, Some, Bool, true, false, not, None, Result, Ok, List, [], ◌∷◌, ◌++◌, length, filter}
use Rattle.std.specs.List.{find}
use Rattle.std.specs.Option.{is_some, is_none}
use Rattle.logical_model.below.dds_logical.specs.declared.views.LogicalSpec.{LogicalSpec}
use Rattle.logical_model.below.dds_logical.specs.declared.views.LogicalSpec.TheVariants.{Simple, Multi, Join}
use Rattle.lock_table.specs.declared.levels.Call.TheVariants.{Close}
use Rattle.file_model.specs.Positions.{Start}
use Rattle.logical_model.specs.Bases.{FileSpec, PhysicalFile, LogicalFile, base_members}
use Rattle.library_model.specs.declared.limits.TheConstants.{MOST_OPENS}
use Rattle.library_model.specs.declared.requests.OpenFile.{OpenFile}
use Rattle.library_model.specs.declared.requests.OpenName.{OpenName}
use Rattle.library_model.specs.declared.replies.Reply.{Reply}
use Rattle.library_model.specs.declared.replies.Reply.TheVariants.{NameExists, LimitReached, NoSuchName, WrongOpen, NoDefinition, NotJournaled, Done}
use Rattle.library_model.specs.declared.replies.Missing.TheVariants.{Name}
use Rattle.library_model.specs.declared.replies.LimitKind.TheVariants.{Opens}
use Rattle.library_model.specs.Named.{same_name, named}
use Rattle.library_steps.specs.State.{Memory, FileState, MemberStatus, OpenState, JobState, file_named, job_of, open_named, with_job}
use Rattle.library_steps.specs.LogicalFiles.{bases_of}
use Rattle.library_steps.specs.Change.{Change, unjournaled, does}
use Rattle.library_steps.specs.Refusals.{◌>>=◌, found, refuse_if, refuse_with, named_or_refused}
use Rattle.library_steps.specs.Records.{is_file_path}
use Rattle.library_steps.specs.SlotChange.{images_of}
use Rattle.library_steps.specs.WriteRecord.{is_input}
use Rattle.library_steps.specs.Locking.{locks_left, with_locks}

-- ---- OPNDBF

-- commitment control is started, and the member is journaled
abbrev pub may_commit : Bool → MemberStatus → JobState → Result Bool Reply
may_commit false status job = Ok true
may_commit true status job = do
  _ ← found job.level NoDefinition
  refuse_if (is_none status.images) (NotJournaled status.number)

-- the first of the members that isn't journaled
abbrev pub first_unjournaled : List ℕ → Memory → Option ℕ
first_unjournaled members m = find (λ member. is_none (images_of member m)) members

-- the same for all members of a logical file
abbrev pub may_commit_all : Bool → List ℕ → JobState → Memory → Result Bool Reply
may_commit_all false members job m = Ok true
may_commit_all true members job m = do
  _ ← found job.level NoDefinition
  refuse_with NotJournaled (first_unjournaled members m)

-- a physical file's member
abbrev pub physical_members : Memory → ℕ → OpenFile → FileState → Result (List ℕ) Reply
physical_members m job args file = do
  status ← named_or_refused args.member (named args.member file.members)
  _ ← may_commit args.commit status (job_of job m)
  Ok (status.number ∷ [])

-- a join file is read alone, and without commitment; a logical file isn't read in arrival order
abbrev pub may_not : LogicalSpec → OpenFile → Bool
may_not (Simple view) args = not (is_file_path args.access_path)
may_not (Multi views) args = not (is_file_path args.access_path)
may_not (Join view) args = not (is_file_path args.access_path) || not (is_input args.option) || args.commit

-- a logical file's base members; it has no member but that of its own name
abbrev pub logical_members : Memory → ℕ → OpenFile → LogicalSpec → Result (List ℕ) Reply
logical_members m job args spec = do
  _ ← refuse_if (not (same_name args.member args.file)) (NoSuchName (Name args.member))
  _ ← refuse_if (may_not spec args) WrongOpen
  _ ← may_commit_all args.commit (base_members (bases_of m) spec) (job_of job m) m
  Ok (base_members (bases_of m) spec)

abbrev pub members_by : FileSpec → Memory → ℕ → OpenFile → FileState → Result (List ℕ) Reply
members_by (PhysicalFile spec) m job args file = physical_members m job args file
members_by (LogicalFile spec) m job args file = logical_members m job args spec

-- the members to open
unfoldable pub open_plan : Memory → ℕ → OpenFile → Result (List ℕ) Reply
open_plan m job args = do
  _ ← refuse_if (is_some (open_named args.open_id job m)) (NameExists args.open_id)
  _ ← refuse_if (nat_le MOST_OPENS (length (job_of job m).opens)) (LimitReached Opens MOST_OPENS)
  file ← named_or_refused args.file (file_named args.file m)
  members_by file.spec m job args file

abbrev pub first_of : List ℕ → ℕ
first_of [] = 0
first_of (member ∷ members) = member

-- an open that has read nothing
abbrev pub new_open : OpenFile → (number : ℕ) → (members : List ℕ) → OpenState
new_open args number members = record {
  number = number;
  file = args.file;
  members = members;
  format = 0;
  member = first_of members;
  option = args.option;
  access_path = args.access_path;
  commit = args.commit;
  position = Start;
  rows = Start;
  current = None;
  last_read = None;
  boundary = Start;
}

abbrev pub with_open : OpenFile → (members : List ℕ) → JobState → JobState
with_open args members job = record job { opens = job.opens ++ (args.open_id, new_open args (job.opened + 1) members) ∷ []; opened = job.opened + 1 }

abbrev pub open_file : Memory → ℕ → OpenFile → Result Change Reply
open_file m job args = does (λ members. unjournaled Done (with_job job (with_open args members) m)) (open_plan m job args)

-- ---- CLOF

abbrev pub without_open : List ℕ → JobState → JobState
without_open name job = record job { opens = filter (λ entry. not (same_name name entry.0)) job.opens }

-- its locks to the next read go, those to the boundary stay
abbrev pub closed : ℕ → OpenName → OpenState → Memory → Memory
closed job args opened m = with_job job (without_open args.open_id) (with_locks (locks_left Close job opened 0 m) m)

abbrev pub close_file : Memory → ℕ → OpenName → Result Change Reply
close_file m job args = does (λ opened. unjournaled Done (closed job args opened m)) (named_or_refused args.open_id (open_named args.open_id job m))
