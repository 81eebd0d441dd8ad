-- What a library is: its files in order of creation, its members by number, its journal, its record locks, and the jobs that have begun.
-- (Database Programming, "Setting up physical files" and "Opening a database file"; Journal Management; Commitment Control.)
use Rattle.std.specs.Prelude.{ℕ, zero, suc, ◌+◌, ◌-◌, Bool, false, if◌then◌else◌, ◌==◌, Option, Some, None, List, [], ◌∷◌, ◌++◌, length, map, drop, slice_get}
use Rattle.std.specs.Option.{option_and_then}
use Rattle.commit_level.specs.declared.Level.{Level}
use Rattle.journal_model.below.entry_codec.specs.declared.entries.Entry.{Entry}
use Rattle.journal_model.below.entry_codec.specs.declared.kinds.Images.{Images}
use Rattle.record_fmt.specs.declared.formats.Field.{Field}
use Rattle.record_fmt.specs.declared.formats.Format.{Format}
use Rattle.dds_physical.specs.declared.physical_files.PhysicalSpec.{PhysicalSpec}
use Rattle.logical_model.specs.Members.{NumberedMembers}
use Rattle.lock_table.specs.declared.lock.Lock.{Lock}
use Rattle.key_spec.specs.declared.KeySpec.{KeySpec}
use Rattle.key_spec.specs.declared.Ties.TheVariants.{Rising}
use Rattle.logical_model.specs.Bases.{FileSpec, PhysicalFile, LogicalFile}
use Rattle.file_model.specs.Paths.{PathEntry}
use Rattle.file_model.specs.Joins.{RowPlace}
use Rattle.file_model.specs.Positions.{Position}
use Rattle.journal_model.specs.Rollback.{MemberChange}
use Rattle.library_model.specs.declared.requests.OpenOption.{OpenOption}
use Rattle.library_model.specs.declared.requests.AccessPath.{AccessPath}
use Rattle.library_model.specs.Named.{Named, named}

-- a member, beside its slots
pub record MemberStatus : Type 0 where
  pub number : ℕ
  -- the images that the journal keeps of its records; None: it isn't journaled
  pub images : Option Images
  -- for a member that isn't journaled: it was changed since its journaling ended, or ever where it had none
  pub changed : Bool
  -- how many records it had when its journaling ended, 0 where it had none
  pub records_then : ℕ
  -- the sequence at which its journaling last began or ended, or its records lost their numbers; 0 for none
  pub last_break : ℕ

-- a file: the data description from which it was made, what that describes, and its members; a logical file has none of its own
pub record FileState : Type 0 where
  pub source : List ℕ
  pub spec : FileSpec
  pub members : Named MemberStatus

-- an open of a job
pub record OpenState : Type 0 where
  -- among all opens of the job, from 1
  pub number : ℕ
  pub file : List ℕ
  -- the members that it is over, in the order of the file's formats, or of a join's files
  pub members : List ℕ
  -- the format of the record that was read last, counted from 0, and the member of that record; before any read the first
  pub format : ℕ
  pub member : ℕ
  pub option : OpenOption
  pub access_path : AccessPath
  -- under commitment control
  pub commit : Bool
  pub position : Position PathEntry
  -- where it stands among the rows of a join file; Start for any other file
  pub rows : Position RowPlace
  -- the record that may be changed: that of the last read, which was one for update
  pub current : Option ℕ
  pub last_read : Option ℕ
  -- where it stood after the job's last COMMIT or ROLLBACK
  pub boundary : Position PathEntry

-- an open commit cycle: the sequence of its start, and its changes, the last one first
pub record CycleState : Type 0 where
  pub sequence : ℕ
  pub undos : List MemberChange

-- a job that has begun; it has ended when its ENDJOB was answered
pub record JobState : Type 0 where
  pub name : List ℕ
  pub ended : Bool
  -- the lock level of commitment control; None where it isn't started
  pub level : Option Level
  pub cycle : Option CycleState
  pub opens : Named OpenState
  -- how many opens it has had
  pub opened : ℕ

-- the receivers that are kept: the number of the first, and of the one that is attached
pub record Receivers : Type 0 where
  pub first : ℕ
  pub attached : ℕ

-- what refusals and effects need of a library: all but the journal's entries
pub record Memory : Type 0 where
  pub files : Named FileState
  pub members : NumberedMembers
  -- the number of the next member that is made
  pub next_member : ℕ
  -- how many entries are gone with their receivers, and the number of the last entry
  pub gone : ℕ
  pub last_entry : ℕ
  pub receivers : Receivers
  -- the sequence of the last checkpoint, 0 where there is none
  pub checkpoint : ℕ
  pub locks : List Lock
  -- the job with number n is the n-th
  pub jobs : List JobState

pub record State : Type 0 where
  pub files : Named FileState
  pub members : NumberedMembers
  pub next_member : ℕ
  pub gone : ℕ
  -- the entries that are kept
  pub entries : List Entry
  pub receivers : Receivers
  pub checkpoint : ℕ
  pub locks : List Lock
  pub jobs : List JobState

-- entries are numbered from 1, and no number is left out
abbrev pub memory_of : State → Memory
memory_of s = record {
  files = s.files;
  members = s.members;
  next_member = s.next_member;
  gone = s.gone;
  last_entry = s.gone + length s.entries;
  receivers = s.receivers;
  checkpoint = s.checkpoint;
  locks = s.locks;
  jobs = s.jobs;
}

-- the memory with the entries of the journal, of which those that it says are gone are no longer kept
abbrev pub with_entries : (gone : ℕ) → List Entry → Memory → State
with_entries gone entries m = record {
  files = m.files;
  members = m.members;
  next_member = m.next_member;
  gone = m.gone;
  entries = drop (m.gone - gone) entries;
  receivers = m.receivers;
  checkpoint = m.checkpoint;
  locks = m.locks;
  jobs = m.jobs;
}

-- a library with nothing in it
abbrev pub empty_library : State
empty_library = record {
  files = [];
  members = [];
  next_member = 1;
  gone = 0;
  entries = [];
  receivers = record { first = 1; attached = 1 };
  checkpoint = 0;
  locks = [];
  jobs = [];
}

-- a job that has begun and done nothing
abbrev pub new_job : List ℕ → JobState
new_job name = record { name = name; ended = false; level = None; cycle = None; opens = []; opened = 0 }

-- the library with these jobs begun in order
abbrev pub begun : State → List (List ℕ) → State
begun s names = record s { jobs = s.jobs ++ map new_job names }

abbrev pub physical_in : FileSpec → Option PhysicalSpec
physical_in (PhysicalFile spec) = Some spec
physical_in (LogicalFile spec) = None

-- the record format and the key of a physical file; a logical file has no records of its own
abbrev pub format_in : FileSpec → Format
format_in (PhysicalFile spec) = spec.format
format_in (LogicalFile spec) = record { name = []; fields = [] }

abbrev pub keys_in : FileSpec → KeySpec
keys_in (PhysicalFile spec) = spec.keys
keys_in (LogicalFile spec) = record { parts = []; unique = false; ties = Rising }

-- the fields of a physical file's records
abbrev pub fields_of : FileState → List Field
fields_of file = (format_in file.spec).fields

-- the file of this name
abbrev pub file_named : List ℕ → Memory → Option FileState
file_named name m = named name m.files

-- what the physical file of this name is
abbrev pub physical_spec : List ℕ → Memory → Option PhysicalSpec
physical_spec name m = option_and_then (λ file. physical_in file.spec) (file_named name m)

-- the physical file of this name; a logical file isn't one
abbrev pub if_physical : FileSpec → FileState → Option FileState
if_physical (PhysicalFile spec) file = Some file
if_physical (LogicalFile spec) file = None

abbrev pub physical_among : List ℕ → Named FileState → Option FileState
physical_among name files = option_and_then (λ file. if_physical file.spec file) (named name files)

abbrev pub physical_named : List ℕ → Memory → Option FileState
physical_named name m = physical_among name m.files

-- the job with this number
abbrev pub job_at : ℕ → List JobState → Option JobState
job_at number jobs = if number == 0 then None else slice_get jobs (number - 1)

-- the same; a job that has done nothing where there is none
abbrev pub or_new : Option JobState → JobState
or_new None = new_job []
or_new (Some job) = job

abbrev pub job_of : ℕ → Memory → JobState
job_of number m = or_new (job_at number m.jobs)

-- the open of this name of the job with this number
abbrev pub open_named : List ℕ → ℕ → Memory → Option OpenState
open_named name job m = named name (job_of job m).opens

-- the jobs with a change of the job at a place counted from 0; none past the end
abbrev pub job_changed : ℕ → (JobState → JobState) → List JobState → List JobState
job_changed place change [] = []
job_changed zero change (job ∷ jobs) = change job ∷ jobs
job_changed (suc place) change (job ∷ jobs) = job ∷ job_changed place change jobs

-- the library with a change of one job
abbrev pub with_job : ℕ → (JobState → JobState) → Memory → Memory
with_job number change m = record m { jobs = job_changed (number - 1) change m.jobs }

-- the job with a change of each of its opens
abbrev pub with_opens : (OpenState → OpenState) → JobState → JobState
with_opens change job = record job { opens = map (λ entry. (entry.0, change entry.1)) job.opens }

-- a file with a change of the status of the member with this number
abbrev pub status_changed : ℕ → (MemberStatus → MemberStatus) → FileState → FileState
status_changed number change file =
    record file { members = map (λ entry. (entry.0, if entry.1.number == number then change entry.1 else entry.1)) file.members }

abbrev pub with_status : ℕ → (MemberStatus → MemberStatus) → Memory → Memory
with_status number change m = record m { files = map (λ entry. (entry.0, status_changed number change entry.1)) m.files }
