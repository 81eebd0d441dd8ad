-- Locks on shelves, each of them in order: the locks of a job are all on one, so that a search for them meets few others.
-- For the body alone.
use Rattle.std.specs.List.{AllByRecursion}
use Rattle.std.specs.List.Sorted.{IsStrictlySortedBy}
use Rattle.std.specs.Prelude.{◌≡◌, ℕ, ◌≤◌, ◌+◌, ◌%◌, ◌==◌, ⊤, Bool, true, Option, None, List, [], ◌∷◌, ◌++◌, length, filter, slice_index_or}
use Rattle.lock_table.specs.declared.lock.Lock.{Lock}
use Rattle.lock_table.specs.declared.part.Part.{Part}
use Rattle.lock_table.specs.declared.part.Part.TheVariants.{OfJob, Reaching, InMember, OnRecord}
use Rattle.lock_table.specs.Lock.{lock_cmp}
use Rattle.lock_table.specs.Table.{least_job}
use Rattle.lock_table.specs.Index.{lesser}

-- the shelf with this number, counted from 0
abbrev pub shelf_at : List (List Lock) → ℕ → List Lock
shelf_at shelves place = slice_index_or shelves place []

-- the locks of all shelves, one shelf behind the other
abbrev pub all_on : List (List Lock) → List Lock
all_on [] = []
all_on (shelf ∷ shelves) = shelf ++ all_on shelves

-- the least job of those on the shelves that have a lock that passes
abbrev pub least_on : (Lock → Bool) → List (List Lock) → Option ℕ
least_on t [] = None
least_on t (shelf ∷ shelves) = lesser (least_job (filter t shelf)) (least_on t shelves)

-- of so many shelves this one is the lock's
abbrev pub belongs : ℕ → ℕ → Lock → Bool
belongs count place lock = (lock.job % count) == place

-- the shelf is in order, and each of its locks belongs there
pub record IsShelved (count place : ℕ) (shelf : List Lock) : Type 0 where
  pub ordered : IsStrictlySortedBy lock_cmp shelf
  pub here : AllByRecursion (λ lock. belongs count place lock ≡ true) shelf

-- the same of the shelves from this place on
abbrev pub AreShelvedFrom : ℕ → ℕ → List (List Lock) → Type 0
AreShelvedFrom count place [] = ⊤
AreShelvedFrom count place (shelf ∷ shelves) = IsShelved count place shelf × AreShelvedFrom count (place + 1) shelves

-- the same of all shelves, of which there is one at least
pub record AreShelved (shelves : List (List Lock)) : Type 0 where
  pub each : AreShelvedFrom (length shelves) 0 shelves
  pub some : 1 ≤ length shelves

-- of the locks that are held the shelf has those that belong where the job's locks do
pub record IsShelfOf (job : ℕ) (shelf held : List Lock) : Type 0 where
  pub count : ℕ
  pub ordered : IsStrictlySortedBy lock_cmp held
  pub is : shelf ≡ filter (belongs count (job % count)) held

-- the job of a part's locks
abbrev pub part_job : Part → ℕ
part_job (OfJob job) = job
part_job (Reaching job reach) = job
part_job (InMember job reach member) = job
part_job (OnRecord job reach at) = job
