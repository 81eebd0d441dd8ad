-- What a record lock is, which two may not be held together, and in which order locks are listed.
-- (Db2 for i, "Database Programming", record locks; "Commitment Control", lock levels.)
use Rattle.std.specs.Prelude.{ℕ, Bool, true, false, not, ◌&&◌, ◌||◌, ◌==◌, IsTrue}
use Rattle.std.specs.Int.RustNames.{bit_and}
use Rattle.std.specs.Ordering.{nat_cmp, ordering_then}
use Rattle.std.specs.declared.cmp.Ordering.{Ordering}
use Rattle.lock_table.specs.declared.lock.LockKind.{LockKind}
use Rattle.lock_table.specs.declared.lock.Reach.{Reach}
use Rattle.lock_table.specs.declared.lock.Reach.TheVariants.{Open, Boundary}
use Rattle.lock_table.specs.declared.lock.RecordId.{RecordId}
use Rattle.lock_table.specs.declared.lock.Holder.{Holder}
use Rattle.lock_table.specs.declared.lock.Lock.{Lock}

-- the kind that lets other jobs read the record, and the one that lets none use it
abbrev pub read_kind : LockKind
read_kind = record { 0 = 1 }

abbrev pub update_kind : LockKind
update_kind = record { 0 = 2 }

-- the kind is UPDATE, alone or among others
abbrev pub is_update : LockKind → Bool
is_update kind = bit_and kind.0 2 == 2

-- it ends at the next read through its open
abbrev pub is_open : Reach → Bool
is_open Open = true
is_open Boundary = false

-- the lock that this open of the job has on the record
abbrev pub lock_by : Holder → RecordId → LockKind → Reach → Lock
lock_by holder at kind reach = record { job = holder.job; reach = reach; at = at; opened = holder.opened; kind = kind }

-- the lock is on a record of this member
abbrev pub is_in : ℕ → Lock → Bool
is_in member lock = lock.at.member == member

-- the lock is on this record
abbrev pub is_on : RecordId → Lock → Bool
is_on at lock = (lock.at.member == at.member) && (lock.at.rrn == at.rrn)

-- a lock of the job, through any of its opens and however long it is held
abbrev pub is_by : ℕ → Lock → Bool
is_by job lock = lock.job == job

-- two kinds that two jobs may not have on one record
abbrev pub are_apart : LockKind → LockKind → Bool
are_apart a b = is_update a || is_update b

-- a lock of another job, where one of the two kinds is UPDATE
abbrev pub is_against : ℕ → LockKind → Lock → Bool
is_against job kind lock = not (is_by job lock) && are_apart lock.kind kind

-- such a lock on this record
abbrev pub blocks : ℕ → RecordId → LockKind → Lock → Bool
blocks job at kind lock = is_on at lock && is_against job kind lock

-- two locks that may not be held together
abbrev pub Clashes : Lock → Lock → Type 0
Clashes a b = IsTrue (blocks a.job a.at a.kind b)

-- a lock of this open that ends at its next read
abbrev pub is_of_open : Holder → Lock → Bool
is_of_open holder lock = is_open lock.reach && (is_by holder.job lock && (lock.opened == holder.opened))

-- such a lock on this record
abbrev pub is_of_open_on : Holder → RecordId → Lock → Bool
is_of_open_on holder at lock = is_on at lock && is_of_open holder lock

-- a lock of any open of the job that ends at that open's next read
abbrev pub is_of_job : ℕ → Lock → Bool
is_of_job job lock = is_open lock.reach && is_by job lock

-- such a lock of one of these opens
abbrev pub is_of_opens : ℕ → (ℕ → Bool) → Lock → Bool
is_of_opens job is_among lock = is_of_job job lock && is_among lock.opened

-- a lock of any open of the job on this record that ends at that open's next read
abbrev pub is_of_record : ℕ → RecordId → Lock → Bool
is_of_record job at lock = is_on at lock && is_of_job job lock

-- a lock that the job keeps to its boundary
abbrev pub is_of_group : ℕ → Lock → Bool
is_of_group job lock = not (is_open lock.reach) && is_by job lock

-- such a lock on this record
abbrev pub is_of_group_on : ℕ → RecordId → Lock → Bool
is_of_group_on job at lock = is_on at lock && is_of_group job lock

-- what the job has on a record that it changed under commitment
abbrev pub is_change_lock : ℕ → RecordId → Lock → Bool
is_change_lock job at lock = is_of_group_on job at lock && is_update lock.kind

-- a lock on a record of this member that some job keeps to its boundary
abbrev pub is_boundary_in : ℕ → Lock → Bool
is_boundary_in member lock = is_in member lock && not (is_open lock.reach)

-- the same lock, kept to the boundary
abbrev pub bound : Lock → Lock
bound lock = record lock { reach = Boundary }

-- open locks come before boundary locks
abbrev pub reach_number : Reach → ℕ
reach_number Open = 0
reach_number Boundary = 1

-- by job and reach, then by record, open and kind
abbrev pub lock_cmp : Lock → Lock → Ordering
lock_cmp a b =
    ordering_then (nat_cmp a.job b.job)
    (ordering_then (nat_cmp (reach_number a.reach) (reach_number b.reach))
    (ordering_then (ordering_then (nat_cmp a.at.member b.at.member) (nat_cmp a.at.rrn b.at.rrn))
    (ordering_then (nat_cmp a.opened b.opened) (nat_cmp a.kind.0 b.kind.0))))
