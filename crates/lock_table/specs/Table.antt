-- Which locks a table holds, for how many it has room, and what each call leaves of them.
use Rattle.std.specs.List.{All, Contains, list_any}
use Rattle.std.specs.List.Sorted.{IsStrictlySortedBy}
use Rattle.std.specs.Ordering.{is_eq, match_ordering}
use Rattle.std.specs.Prelude.{◌≡◌, ℕ, ◌-◌, ◌≤◌, Bool, true, not, ◌+◌, cond, min, max, IsTrue, Option, None, Some, List, [], ◌∷◌, length, map, filter}
use Rattle.std.specs.declared.cmp.Ordering.{Ordering}
use Rattle.std.specs.Option.{option_map_or}
use Rattle.lock_table.specs.declared.table.TheConstants.{MOST_LOCKS}
use Rattle.lock_table.specs.declared.lock.LockKind.{LockKind}
use Rattle.lock_table.specs.declared.lock.Reach.{Reach}
use Rattle.lock_table.specs.declared.lock.Reach.TheVariants.{Open, Boundary}
use Rattle.lock_table.specs.declared.lock.RecordId.{RecordId}
use Rattle.lock_table.specs.declared.lock.Holder.{Holder}
use Rattle.lock_table.specs.declared.lock.Lock.{Lock}
use Rattle.lock_table.specs.Lock.{blocks, Clashes, is_change_lock, is_of_open, is_of_open_on, bound, lock_by, lock_cmp}

-- the locks that are held, each once and in order, and how many may be held without more memory
pub record Locks : Type 0 where
  pub held : List Lock
  pub room : ℕ

-- how many locks may be added without more memory
abbrev pub spare : Locks → ℕ
spare t = t.room - length t.held

-- the item in its place in the order R, unless it is there
abbrev pub with_item : {X : Type 0} → (X → X → Ordering) → X → List X → List X
with_item R x [] = x ∷ []
with_item R x (y ∷ ys) = match_ordering (R x y) (x ∷ y ∷ ys) (y ∷ ys) (y ∷ with_item R x ys)

-- the items in the order R, each once
abbrev pub in_order : {X : Type 0} → (X → X → Ordering) → List X → List X
in_order R [] = []
in_order R (x ∷ xs) = with_item R x (in_order R xs)

-- this lock is held besides
abbrev pub with_lock : Lock → List Lock → List Lock
with_lock = with_item lock_cmp

-- all but this lock are held
abbrev pub without_lock : Lock → List Lock → List Lock
without_lock gone held = filter (λ lock. not (is_eq (lock_cmp lock gone))) held

-- the open has this lock on the record; one to the boundary takes the place of the same lock to the next read
abbrev pub with_lock_by : Holder → RecordId → LockKind → Reach → List Lock → List Lock
with_lock_by holder at kind Open held = with_lock (lock_by holder at kind Open) held
with_lock_by holder at kind Boundary held = with_lock (lock_by holder at kind Boundary) (without_lock (lock_by holder at kind Open) held)

-- the locks that pass this test are freed
abbrev pub freed : (Lock → Bool) → List Lock → List Lock
freed gone held = filter (λ lock. not (gone lock)) held

-- what a read leaves that locks its record: the open's older lock goes, and the new one is held
abbrev pub after_read : Holder → RecordId → LockKind → Reach → List Lock → List Lock
after_read holder at kind reach held = with_lock_by holder at kind reach (freed (is_of_open holder) held)

-- the least number of a job that has one of these locks
abbrev pub least_job : List Lock → Option ℕ
least_job [] = None
least_job (lock ∷ locks) = Some (option_map_or (min lock.job) (least_job locks) lock.job)

-- the least job with a lock that clashes with this job's lock of that kind on the record
abbrev pub blocker : ℕ → RecordId → LockKind → List Lock → Option ℕ
blocker job at kind held = least_job (filter (blocks job at kind) held)

-- this open's lock on the record is kept to the boundary
abbrev pub kept : Holder → RecordId → Lock → Lock
kept holder at lock = cond (is_of_open_on holder at lock) (bound lock) lock

abbrev pub kept_to_boundary : Holder → RecordId → List Lock → List Lock
kept_to_boundary holder at held = in_order lock_cmp (map (kept holder at) held)

-- no two locks that are held clash
abbrev pub AreCompatible : List Lock → Type 0
AreCompatible held = All (λ a. All (λ b. Clashes a b → ⊥) held) held

-- the job has the lock of a record that it changed under commitment
abbrev pub HoldsChange : ℕ → RecordId → List Lock → Type 0
HoldsChange job at held = IsTrue (list_any (is_change_lock job at) held)

-- the lock is held and passes the test
pub record IsOneOf (test : Lock → Bool) (lock : Lock) (held : List Lock) : Type 0 where
  pub there : Contains held lock
  pub passes : test lock ≡ true

-- what is true of every table
pub record IsTable (t : Locks) : Type 0 where
  pub ordered : IsStrictlySortedBy lock_cmp t.held
  pub compatible : AreCompatible t.held
  pub fits : length t.held ≤ t.room
  pub within : t.room ≤ MOST_LOCKS

-- there is room for the locks that are held once this one is
abbrev pub HasRoom : Holder → RecordId → LockKind → Reach → Locks → Type 0
HasRoom holder at kind reach t = length (with_lock_by holder at kind reach t.held) ≤ t.room

-- the table with other locks and the same room
abbrev pub holding : List Lock → Locks → Locks
holding held t = record { held = held; room = t.room }

-- the table with room for so many more locks, or with the room that it had
abbrev pub reserved : ℕ → Locks → Locks
reserved more t = record { held = t.held; room = max t.room (length t.held + more) }
