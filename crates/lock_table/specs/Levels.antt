-- Which lock each call asks for and which locks it releases, at each level of commitment control.
-- (Db2 for i, "Commitment Control", lock levels and record locks; "Database Programming", record locks.)
-- The level is that of the open through which a call is made, and None where it isn't under commitment.
use Rattle.std.specs.Prelude.{ℕ, Bool, true, false, Option, None, Some, List}
use Rattle.commit_level.specs.declared.Level.{Level}
use Rattle.commit_level.specs.declared.Level.TheVariants.{Chg, Cs, All}
use Rattle.lock_table.specs.declared.lock.Reach.TheVariants.{Open, Boundary}
use Rattle.lock_table.specs.declared.levels.Call.{Call}
use Rattle.lock_table.specs.declared.levels.Call.TheVariants.{InputRead, UpdateRead, Update, Delete, Write, WriteAt, Unlock, Position, Close, Commit, Rollback, EndCommitment, EndJob}
use Rattle.lock_table.specs.declared.levels.Wanted.{Wanted}
use Rattle.lock_table.specs.declared.levels.OpenLocks.{OpenLocks}
use Rattle.lock_table.specs.declared.levels.OpenLocks.TheVariants.{Stay, OfOpen, OfRecord, OfCommitted, OfJob}
use Rattle.lock_table.specs.declared.levels.Freed.{Freed}
use Rattle.lock_table.specs.declared.lock.RecordId.{RecordId}
use Rattle.lock_table.specs.declared.lock.Holder.{Holder}
use Rattle.lock_table.specs.declared.lock.Lock.{Lock}
use Rattle.lock_table.specs.Lock.{is_of_group, is_of_job, is_of_open, is_of_opens, is_of_record, read_kind, update_kind}
use Rattle.lock_table.specs.Table.{freed, with_lock_by}

-- the four locks that a record may get
abbrev read_open : Option Wanted
read_open = Some (record { kind = read_kind; reach = Open })

abbrev read_boundary : Option Wanted
read_boundary = Some (record { kind = read_kind; reach = Boundary })

abbrev update_open : Option Wanted
update_open = Some (record { kind = update_kind; reach = Open })

abbrev update_boundary : Option Wanted
update_boundary = Some (record { kind = update_kind; reach = Boundary })

-- without commitment, at *CHG, at *CS and at *ALL
abbrev at_level : {X : Type 0} → X → X → X → X → Option Level → X
at_level none chg cs all None = none
at_level none chg cs all (Some Chg) = chg
at_level none chg cs all (Some Cs) = cs
at_level none chg cs all (Some All) = all

-- the lock that the call asks for on its record: of which kind, and how long it is held. Another job's lock that clashes
-- with it refuses the call. A read of a join file is an input read without commitment: no such file is opened otherwise.
abbrev pub asked : Call → Option Level → Option Wanted
asked InputRead = at_level None None read_open read_boundary
asked UpdateRead = at_level update_open update_open update_open update_boundary
asked Update = at_level None update_boundary update_boundary update_boundary
asked Delete = at_level None update_boundary update_boundary update_boundary
asked Write = at_level None update_boundary update_boundary update_boundary
asked WriteAt = at_level update_open update_boundary update_boundary update_boundary
asked call = at_level None None None None

-- the lock that the call leaves on its record: without commitment a WRITE at a deleted place gives up its own at its end
abbrev pub gained : Call → Option Level → Option Wanted
gained WriteAt = at_level None update_boundary update_boundary update_boundary
gained call = asked call

-- open locks alone, and open locks with the boundary locks of the job
abbrev only : OpenLocks → Freed
only locks = record { open_locks = locks; boundary_locks = false }

abbrev with_boundary : OpenLocks → Freed
with_boundary locks = record { open_locks = locks; boundary_locks = true }

-- which locks the call releases once it is OK
abbrev pub released : Call → Option Level → Freed
released InputRead = at_level (only OfOpen) (only OfOpen) (only OfOpen) (only OfOpen)
released UpdateRead = at_level (only OfOpen) (only OfOpen) (only OfOpen) (only OfOpen)
released Update = at_level (only OfOpen) (only Stay) (only Stay) (only Stay)
released Delete = at_level (only OfRecord) (only OfRecord) (only OfRecord) (only OfRecord)
released Write = at_level (only Stay) (only Stay) (only Stay) (only Stay)
released WriteAt = at_level (only OfRecord) (only Stay) (only Stay) (only Stay)
released Unlock = at_level (only OfOpen) (only OfOpen) (only OfOpen) (only Stay)
released Position = at_level (only OfOpen) (only OfOpen) (only OfOpen) (only OfOpen)
released Close = at_level (only OfOpen) (only OfOpen) (only OfOpen) (only OfOpen)
released Commit = at_level (with_boundary OfCommitted) (with_boundary OfCommitted) (with_boundary OfCommitted) (with_boundary OfCommitted)
released Rollback = at_level (with_boundary OfJob) (with_boundary OfJob) (with_boundary OfJob) (with_boundary OfJob)
released EndCommitment = at_level (with_boundary Stay) (with_boundary Stay) (with_boundary Stay) (with_boundary Stay)
released EndJob = at_level (with_boundary OfJob) (with_boundary OfJob) (with_boundary OfJob) (with_boundary OfJob)

-- ---- what is left of the locks that are held
-- The holder is the job and the open of the call, and at is its record. is_committed says which opens of the job are
-- under commitment.

abbrev pub without_open_locks : OpenLocks → Holder → RecordId → (ℕ → Bool) → List Lock → List Lock
without_open_locks Stay holder at is_committed held = held
without_open_locks OfOpen holder at is_committed held = freed (is_of_open holder) held
without_open_locks OfRecord holder at is_committed held = freed (is_of_record holder.job at) held
without_open_locks OfCommitted holder at is_committed held = freed (is_of_opens holder.job is_committed) held
without_open_locks OfJob holder at is_committed held = freed (is_of_job holder.job) held

abbrev pub without_boundary_locks : Bool → ℕ → List Lock → List Lock
without_boundary_locks false job held = held
without_boundary_locks true job held = freed (is_of_group job) held

abbrev pub with_wanted : Option Wanted → Holder → RecordId → List Lock → List Lock
with_wanted None holder at held = held
with_wanted (Some wanted) holder at held = with_lock_by holder at wanted.kind wanted.reach held

-- the locks that are held once the call is OK: those that it releases are gone, and the one that it leaves is held besides
-- what the job holds already. A change under commitment turns the lock of its open into a boundary lock, since this takes
-- the place of the same lock to the next read.
abbrev pub locks_after : Call → Option Level → Holder → RecordId → (ℕ → Bool) → List Lock → List Lock
locks_after call level holder at is_committed held =
    let gone = released call level in
    with_wanted (gained call level) holder at
    (without_open_locks gone.open_locks holder at is_committed (without_boundary_locks gone.boundary_locks holder.job held))
