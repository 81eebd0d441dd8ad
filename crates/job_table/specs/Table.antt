-- What contracts see of the table of jobs: the jobs that have begun, how the opens of each read, the moves in access paths that take back each
-- change of its commit cycle, and for how many changes it has room. (Our own.)
use Rattle.std.specs.Prelude.{◌≡◌, ℕ, zero, suc, ◌-◌, ◌≤◌, Bool, true, Option, None, List, [], ◌∷◌, length, map, slice_index, slice_index_or}
use Rattle.std.specs.List.{sum_by, AllZip}
use Rattle.commit_level.specs.declared.Level.{Level}
use Rattle.library_model.specs.Named.{Named}
use Rattle.path_set.specs.declared.moves.PathMove.{PathMove}
use Rattle.lawful_states.specs.State.{OpenState, CycleState, JobState, job_at, or_new}
use Rattle.lawful_states.specs.Uses.{changes_in}
use Rattle.lawful_states.specs.SlotChange.{change_bytes}
use Rattle.job_table.specs.Changes.{HasRoom}
use Rattle.job_table.specs.Opens.{OpenOrder, SameOpen}

-- a job, for how many changes of a commit cycle it has room in all, how its opens read, and the moves that take back each change of its cycle
pub record RoomyJob : Type 0 where
  pub state : JobState
  pub room : ℕ
  pub orders : Named OpenOrder
  pub moves : List (List PathMove)

-- the job with number n is the n-th, and so is all else of it
pub record JobTable : Type 0 where
  pub jobs : List JobState
  pub rooms : List ℕ
  pub orders : List (Named OpenOrder)
  pub moves : List (List (List PathMove))

abbrev pub table_of : List RoomyJob → JobTable
table_of jobs = record {
  jobs = map (λ job. job.state) jobs;
  rooms = map (λ job. job.room) jobs;
  orders = map (λ job. job.orders) jobs;
  moves = map (λ job. job.moves) jobs;
}

-- each open of the job stands beside how it reads, and each change beside its moves
pub record IsWhole (job : RoomyJob) : Type 0 where
  pub ordered : AllZip SameOpen job.state.opens job.orders
  pub counted : length job.moves ≡ length (changes_in job.state.cycle)

-- how the opens of the job with this number read, and the moves that take its changes back; none where there is no such job
abbrev pub orders_at : ℕ → JobTable → Named OpenOrder
orders_at number table = slice_index_or table.orders (number - 1) []

abbrev pub moves_at : ℕ → JobTable → List (List PathMove)
moves_at number table = slice_index_or table.moves (number - 1) []

-- a list with a change of what stands at a place counted from 0; none past the end
abbrev pub changed_at : {A : Type 0} → ℕ → (A → A) → List A → List A
changed_at place change [] = []
changed_at zero change (item ∷ items) = change item ∷ items
changed_at (suc place) change (item ∷ items) = item ∷ changed_at place change items

-- the job with this number; one that has done nothing where there is none
abbrev pub job_of_number : ℕ → List JobState → JobState
job_of_number number jobs = or_new (job_at number jobs)

-- the job with this number has room for one change more
abbrev pub HasRoomFor : ℕ → JobTable → Type 0
HasRoomFor number table = HasRoom (changes_in (job_of_number number table.jobs).cycle) (slice_index table.rooms (number - 1))

-- how many changes the open commit cycles have, and how many bytes of images their undo entries would carry
abbrev pub changes_held : List JobState → ℕ
changes_held jobs = sum_by (λ job. length (changes_in job.cycle)) jobs

abbrev pub bytes_held : List JobState → ℕ
bytes_held jobs = sum_by (λ job. sum_by change_bytes (changes_in job.cycle)) jobs

-- there are few enough jobs, and what their changes come to is counted
pub record IsCounted (jobs : List JobState) (changes bytes : ℕ) : Type 0 where
  pub few : length jobs ≤ 4294967295
  pub changes_are : changes ≡ changes_held jobs
  pub bytes_are : bytes ≡ bytes_held jobs

-- a job by its parts
abbrev pub job_state : (name : List ℕ) → (ended : Bool) → Option Level → Option CycleState → Named OpenState → (opened : ℕ) → JobState
job_state name ended level cycle opens opened =
    record { name = name; ended = ended; level = level; cycle = cycle; opens = opens; opened = opened }

-- the end of a job that has no open commit cycle
abbrev pub closed_job : JobState → JobState
closed_job job = record job { ended = true; level = None; opens = [] }
