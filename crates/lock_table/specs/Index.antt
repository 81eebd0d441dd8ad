-- How a table finds and keeps locks: the parts of its list, which is in order, that a job, an open lock or a record has.
use Rattle.std.specs.List.{find}
use Rattle.std.specs.List.Sorted.{IsStrictlySortedBy}
use Rattle.std.specs.Option.{option_map, option_map_or}
use Rattle.std.specs.Ordering.{is_eq, nat_cmp, ordering_then}
use Rattle.std.specs.Prelude.{◌≡◌, ℕ, ◌≤◌, ◌+◌, ◌==◌, ◌&&◌, Bool, true, not, min, Option, None, Some, List, length, map, filter}
use Rattle.std.specs.declared.cmp.Ordering.{Ordering}
use Rattle.lock_table.specs.declared.lock.Lock.{Lock}
use Rattle.lock_table.specs.declared.lock.LockKind.{LockKind}
use Rattle.lock_table.specs.declared.lock.Reach.{Reach}
use Rattle.lock_table.specs.declared.lock.RecordId.{RecordId}
use Rattle.lock_table.specs.declared.part.Part.{Part}
use Rattle.lock_table.specs.declared.part.Part.TheVariants.{OfJob, Reaching, InMember, OnRecord}
use Rattle.lock_table.specs.declared.part.Sought.{Sought}
use Rattle.lock_table.specs.declared.part.Sought.TheVariants.{Any, Through, Against}
use Rattle.lock_table.specs.declared.table.TheConstants.{MOST_LOCKS}
use Rattle.lock_table.specs.Lock.{are_apart, lock_cmp, reach_number}
use Rattle.lock_table.specs.Table.{IsTable, Locks, in_order}

-- the lock stands before the part, in it or after it
abbrev pub part_cmp : Part → Lock → Ordering
part_cmp (OfJob job) lock = nat_cmp lock.job job
part_cmp (Reaching job reach) lock = ordering_then (nat_cmp lock.job job) (nat_cmp (reach_number lock.reach) (reach_number reach))
part_cmp (InMember job reach member) lock =
    ordering_then (nat_cmp lock.job job)
    (ordering_then (nat_cmp (reach_number lock.reach) (reach_number reach)) (nat_cmp lock.at.member member))
part_cmp (OnRecord job reach at) lock =
    ordering_then (nat_cmp lock.job job)
    (ordering_then (nat_cmp (reach_number lock.reach) (reach_number reach))
    (ordering_then (nat_cmp lock.at.member at.member) (nat_cmp lock.at.rrn at.rrn)))

abbrev pub is_part : Part → Lock → Bool
is_part part lock = is_eq (part_cmp part lock)

-- the lock is looked for: any, one through an open, or one of another job that clashes with a kind, where locks are by record
abbrev pub is_sought : Sought → Lock → Bool
is_sought Any lock = true
is_sought (Through opened) lock = lock.opened == opened
is_sought (Against job kind) lock = not (lock.at.rrn == job) && are_apart lock.kind kind

-- there are so many nodes, each with a lock or free, enough for the room that the table shows, and the list of free ones
-- has room for them all
pub record IsStored (locks : List Lock) (room nodes free capacity : ℕ) : Type 0 where
  pub table : IsTable (record { held = locks; room = room })
  pub counted : nodes ≡ length locks + free
  pub enough : room ≤ nodes
  pub within : nodes ≤ MOST_LOCKS
  pub stored : nodes ≤ capacity

-- ---- the same locks once more, by record
-- In the order of locks a record number stands where else the job does, and the job where the record number does: those on
-- a record with one reach stand side by side, the least job first, and those with one record number on one shelf.
abbrev pub record_first : Lock → Lock
record_first lock = record {
  job = lock.at.rrn;
  reach = lock.reach;
  at = record { member = lock.at.member; rrn = lock.job };
  opened = lock.opened;
  kind = lock.kind;
}

abbrev pub marks_of : List Lock → List Lock
marks_of locks = in_order lock_cmp (map record_first locks)

-- the lesser of two numbers, or the one that is given
abbrev pub lesser : Option ℕ → Option ℕ → Option ℕ
lesser None other = other
lesser (Some number) other = Some (option_map_or (min number) other number)

-- the first job of those that have a lock of this reach on the record against this job's lock of that kind
abbrev pub first_against : Reach → ℕ → RecordId → LockKind → List Lock → Option ℕ
first_against reach job at kind marks =
    option_map (λ (mark : Lock). mark.at.rrn) (find (is_sought (Against job kind)) (filter (is_part (InMember at.rrn reach at.member)) marks))

-- there are so many nodes, each with a lock or free, and the list of free ones has room for them all
pub record AreMarks (locks : List Lock) (nodes free capacity : ℕ) : Type 0 where
  pub ordered : IsStrictlySortedBy lock_cmp locks
  pub counted : nodes ≡ length locks + free
  pub within : nodes ≤ MOST_LOCKS
  pub stored : nodes ≤ capacity

-- each lock has its mark, and there is room for as many
pub record IsMarked (locks : List Lock) (room nodes free capacity : ℕ) (marks : Locks) : Type 0 where
  pub stored : IsStored locks room nodes free capacity
  pub same : marks.held ≡ marks_of locks
  pub ready : room ≤ marks.room
