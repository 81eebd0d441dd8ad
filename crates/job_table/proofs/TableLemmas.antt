-- One job of the table set anew: what the table then has, what is counted of its jobs, and that all stays beside one another.
use Rattle.std.proofs.Common.{not, slice_index, slice_index_or, Result, Ok, Err, OnOk, get_or-set_same, length-append, length-set, ◌≡◌, ℕ, zero, suc, ◌+◌, ◌-◌, ◌<◌, ◌≤◌, ◌==◌, true, false, if◌then◌else◌, IsTrue, Option, Some, None, List, [], ◌∷◌, ◌++◌, length, map, slice_get, slice_set, get_or, All, ne_eqb, add-zero, refl, sym, ◌∙◌, ap, subst, arith}
use Rattle.std.specs.List.{sum_by, AllZip}
use Rattle.std.proofs.Math.ListN.{get_or-map}
use Rattle.std.proofs.Math.Seq.{map-set_same}
use Rattle.std.proofs.lemmas.Bool.Decides.{nat_tests}
use Rattle.std.proofs.lemmas.List.{length-map, map-append, map-set, get_or-map as get_or-map-at}
use Rattle.std.proofs.lemmas.List.Elements.{All-push}
use Rattle.std.proofs.lemmas.List.Sums.{sum_by-append, sum_by-set, sum_by-cons, get_or-le-sum_by}
use Rattle.std.proofs.lemmas.Option.{slice_get-get_or}
use Rattle.lawful_states.below.library_steps.specs.declared.limits.TheConstants.{MOST_GROUP_BYTES}
use Rattle.journal_model.specs.Rollback.{MemberChange}
use Rattle.path_set.specs.declared.moves.PathMove.{PathMove}
use Rattle.library_model.specs.Named.{Named}
use Rattle.lawful_states.specs.State.{JobState, CycleState, OpenState, job_at, job_changed, or_new, new_job, with_opens}
use Rattle.lawful_states.specs.History.{is_running}
use Rattle.lawful_states.specs.Uses.{changes_in}
use Rattle.lawful_states.specs.SlotChange.{change_bytes, noted, with_cycle}
use Rattle.lawful_states.specs.Jobs.{cycle_from}
use Rattle.job_table.specs.Changes.{bytes_of, HasRoom}
use Rattle.job_table.specs.Opens.{OpenOrder, SameOpen}
use Rattle.job_table.specs.OpenChanges.{opens_after, job_after}
use Rattle.job_table.specs.declared.opens.OpenChange.{OpenChange}
use Rattle.job_table.specs.Table.{RoomyJob, JobTable, IsWhole, table_of, job_of_number, orders_at, moves_at, changed_at, changes_held, bytes_held, HasRoomFor, IsCounted}

-- ---- one job changed

pub set-job_changed : (jobs : List JobState) (place : ℕ) (change : JobState → JobState) (job : JobState) → job ≡ get_or jobs place job
    → slice_set jobs place (change job) ≡ job_changed place change jobs
set-job_changed [] place change job here = refl
set-job_changed (first ∷ jobs) zero change job here = ap (λ j. change j ∷ jobs) here
set-job_changed (first ∷ jobs) (suc place) change job here = ap (λ rest. first ∷ rest) (set-job_changed jobs place change job here)

-- the same of any list
pub set-changed_at : {A : Type 0} (items : List A) (place : ℕ) (change : A → A) (item : A) → item ≡ get_or items place item → slice_set items place (change item) ≡ changed_at place change items
set-changed_at [] place change item here = refl
set-changed_at (first ∷ items) zero change item here = ap (λ x. change x ∷ items) here
set-changed_at (first ∷ items) (suc place) change item here = ap (λ rest. first ∷ rest) (set-changed_at items place change item here)

-- a part of each item, where one item is set anew
module _ {A : Type 0} (part : RoomyJob → A) (items : List RoomyJob) (place : ℕ) (job new : RoomyJob) (here : job ≡ get_or items place job) where
  pub part-here : part job ≡ get_or (map part items) place (part job)
  part-here = ap part here ∙ sym (get_or-map part items place job)

  pub part-changed : (change : A → A) → part new ≡ change (part job) → map part (slice_set items place new) ≡ changed_at place change (map part items)
  part-changed change made =
      map-set part items place new ∙ ap (λ x. slice_set (map part items) place x) made ∙ set-changed_at (map part items) place change (part job) part-here

  pub part-kept : part new ≡ part job → map part (slice_set items place new) ≡ map part items
  part-kept same = map-set_same part items place new job (same ∙ ap part here)

pub length-job_changed : (place : ℕ) (change : JobState → JobState) (jobs : List JobState) → length (job_changed place change jobs) ≡ length jobs
length-job_changed place change [] = refl
length-job_changed zero change (job ∷ jobs) = refl
length-job_changed (suc place) change (job ∷ jobs) = ap (λ n. suc n) (length-job_changed place change jobs)

-- two changes of a job are one
pub job_changed-twice : (place : ℕ) (former later : JobState → JobState) (jobs : List JobState)
    → job_changed place later (job_changed place former jobs) ≡ job_changed place (λ j. later (former j)) jobs
job_changed-twice place former later [] = refl
job_changed-twice zero former later (job ∷ jobs) = refl
job_changed-twice (suc place) former later (job ∷ jobs) = ap (λ rest. job ∷ rest) (job_changed-twice place former later jobs)

or_new-get_or : (jobs : List JobState) (place : ℕ) → or_new (slice_get jobs place) ≡ get_or jobs place (new_job [])
or_new-get_or [] place = refl
or_new-get_or (job ∷ jobs) zero = refl
or_new-get_or (job ∷ jobs) (suc place) = or_new-get_or jobs place

-- changes are one where they make the same of the job at the place
job_changed-same : (place : ℕ) (one other : JobState → JobState) (jobs : List JobState) (default : JobState) → one (get_or jobs place default) ≡ other (get_or jobs place default)
    → job_changed place one jobs ≡ job_changed place other jobs
job_changed-same place one other [] default same = refl
job_changed-same zero one other (job ∷ jobs) default same = ap (λ j. j ∷ jobs) same
job_changed-same (suc place) one other (job ∷ jobs) default same = ap (λ rest. job ∷ rest) (job_changed-same place one other jobs default same)

-- ---- a job that runs

in_range : (jobs : List JobState) (place : ℕ) → IsTrue (is_running (slice_get jobs place)) → place < length jobs
in_range [] place h = absurd cc
in_range (job ∷ jobs) zero h = omega arith
in_range (job ∷ jobs) (suc place) h = omega (arith, in_range jobs place h)

-- it stands at its place
pub record Stands (jobs : List JobState) (number : ℕ) : Type 0 where
  pub first : 1 ≤ number
  pub last : number - 1 < length jobs

runs_after : (jobs : List JobState) (place other : ℕ) (change : JobState → JobState) → ((j : JobState) → (change j).ended ≡ j.ended)
    → is_running (slice_get (job_changed other change jobs) place) ≡ is_running (slice_get jobs place)
runs_after [] place other change same = refl
runs_after (job ∷ jobs) zero zero change same = ap not (same job)
runs_after (job ∷ jobs) (suc place) zero change same = refl
runs_after (job ∷ jobs) zero (suc other) change same = refl
runs_after (job ∷ jobs) (suc place) (suc other) change same = runs_after jobs place other change same

-- a job that runs does so after a change that doesn't end it
pub running-after : {new : List JobState} (jobs : List JobState) (number other : ℕ) (change : JobState → JobState) → ((j : JobState) → (change j).ended ≡ j.ended)
    → new ≡ job_changed other change jobs → IsTrue (is_running (job_at number jobs)) → IsTrue (is_running (job_at number new))
running-after {new} jobs number other change same after running =
    rw after
    (elim (number == 0) as
    (λ b. IsTrue (is_running (if b then None else slice_get jobs (number - 1))) → IsTrue (is_running (if b then None else slice_get (job_changed other change jobs) (number - 1)))) [
      | true ↦ λ h. h
      | false ↦ λ h. rw (runs_after jobs (number - 1) other change same) h
    ] running)

-- where a number isn't 0, the job is that of its place
job_at-place : (jobs : List JobState) (number : ℕ) → 1 ≤ number → job_at number jobs ≡ slice_get jobs (number - 1)
job_at-place jobs number first = let other : (number == 0) ≡ false = ne_eqb number 0 (λ e. absurd (omega arith)) in rw other refl

pub running-Stands : (jobs : List JobState) (number : ℕ) → IsTrue (is_running (job_at number jobs)) → Stands jobs number
running-Stands jobs number running =
    elim (number == 0) as (λ b. (number == 0) ≡ b → IsTrue (is_running (if b then None else slice_get jobs (number - 1))) → Stands jobs number) [
      | true ↦ λ e h. absurd cc
      | false ↦ λ e h. record { first = grind (arith, nat_tests, e); last = in_range jobs (number - 1) h }
    ] refl running

pub job_at-get_or : (jobs : List JobState) (number : ℕ) (job : JobState) → Stands jobs number → job ≡ get_or jobs (number - 1) job → job_at number jobs ≡ Some job
job_at-get_or jobs number job stands here =
    job_at-place jobs number stands.first ∙ slice_get-get_or jobs (number - 1) job stands.last ∙ ap (λ j. Some j) (sym here)

-- ---- a job of the table, set anew

module _ (items : List RoomyJob) (now : JobTable) (number : ℕ) (job new : RoomyJob) (view_is : table_of items ≡ now)
    (running : IsTrue (is_running (job_at number now.jobs))) (here : job ≡ get_or items (number - 1) job) where
  states_are : map (λ j. j.state) items ≡ now.jobs
  states_are = ap (λ t. t.jobs) view_is

  pub stands : Stands now.jobs number
  stands = running-Stands now.jobs number running

  state_here : job.state ≡ get_or now.jobs (number - 1) job.state
  state_here = ap (λ j. j.state) here ∙ sym (get_or-map (λ (j : RoomyJob). j.state) items (number - 1) job) ∙ ap (λ l. get_or l (number - 1) job.state) states_are

  -- the job of the number is the one that was found
  pub job_is : job_of_number number now.jobs ≡ job.state
  job_is = ap or_new (job_at-get_or now.jobs number job.state stands state_here)

  -- the jobs, where its state is changed
  pub jobs_after : (change : JobState → JobState) → new.state ≡ change job.state → map (λ j. j.state) (slice_set items (number - 1) new) ≡ job_changed (number - 1) change now.jobs
  jobs_after change made =
      map-set (λ j. j.state) items (number - 1) new
      ∙ (λ i. slice_set (states_are i) (number - 1) (made i))
      ∙ set-job_changed now.jobs (number - 1) change job.state state_here

  -- the rooms, where its room stays
  pub rooms_after : new.room ≡ job.room → map (λ j. j.room) (slice_set items (number - 1) new) ≡ now.rooms
  rooms_after same = part-kept (λ j. j.room) items (number - 1) job new here same ∙ ap (λ t. t.rooms) view_is

  -- how opens read, where that of its opens is changed, and where it stays
  pub orders_after : (change : Named OpenOrder → Named OpenOrder) → new.orders ≡ change job.orders
      → map (λ j. j.orders) (slice_set items (number - 1) new) ≡ changed_at (number - 1) change now.orders
  orders_after change made = part-changed (λ j. j.orders) items (number - 1) job new here change made ∙ ap (λ t. changed_at (number - 1) change t.orders) view_is

  pub orders_kept : new.orders ≡ job.orders → map (λ j. j.orders) (slice_set items (number - 1) new) ≡ now.orders
  orders_kept same = part-kept (λ j. j.orders) items (number - 1) job new here same ∙ ap (λ t. t.orders) view_is

  -- the moves that take changes back, in the same way
  pub moves_after : (change : List (List PathMove) → List (List PathMove)) → new.moves ≡ change job.moves
      → map (λ j. j.moves) (slice_set items (number - 1) new) ≡ changed_at (number - 1) change now.moves
  moves_after change made = part-changed (λ j. j.moves) items (number - 1) job new here change made ∙ ap (λ t. changed_at (number - 1) change t.moves) view_is

  pub moves_kept : new.moves ≡ job.moves → map (λ j. j.moves) (slice_set items (number - 1) new) ≡ now.moves
  moves_kept same = part-kept (λ j. j.moves) items (number - 1) job new here same ∙ ap (λ t. t.moves) view_is

  pub place_there : number - 1 < length items
  place_there = omega (arith, stands.last, ap length (sym states_are), length-map items (λ (j : RoomyJob). j.state))

  -- how its opens read, and its moves, are those that stand at its number
  pub orders_is : orders_at number now ≡ job.orders
  orders_is = ap (λ t. slice_index_or t.orders (number - 1) []) (sym view_is) ∙ get_or-map-at (λ j. j.orders) items (number - 1) job [] place_there ∙ ap (λ j. j.orders) (sym here)

  pub moves_is : moves_at number now ≡ job.moves
  moves_is = ap (λ t. slice_index_or t.moves (number - 1) []) (sym view_is) ∙ get_or-map-at (λ j. j.moves) items (number - 1) job [] place_there ∙ ap (λ j. j.moves) (sym here)

  -- the table, where its state is changed and all else stays
  pub table_after : (change : JobState → JobState) → new ≡ record job { state = change job.state }
      → table_of (slice_set items (number - 1) new) ≡ record now { jobs = job_changed (number - 1) change now.jobs }
  table_after change made =
      let jobs = jobs_after change (ap (λ j. j.state) made) in
      let rooms = rooms_after (ap (λ j. j.room) made) in
      let orders = orders_kept (ap (λ j. j.orders) made) in
      let moves = moves_kept (ap (λ j. j.moves) made) in
      λ i. record { jobs = jobs i; rooms = rooms i; orders = orders i; moves = moves i }

  -- where how its opens read is changed too
  pub table_ordered : (change : JobState → JobState) (reorder : Named OpenOrder → Named OpenOrder) → new ≡ record job { state = change job.state; orders = reorder job.orders }
      → table_of (slice_set items (number - 1) new) ≡ record now { jobs = job_changed (number - 1) change now.jobs; orders = changed_at (number - 1) reorder now.orders }
  table_ordered change reorder made =
      let jobs = jobs_after change (ap (λ j. j.state) made) in
      let rooms = rooms_after (ap (λ j. j.room) made) in
      let orders = orders_after reorder (ap (λ j. j.orders) made) in
      let moves = moves_kept (ap (λ j. j.moves) made) in
      λ i. record { jobs = jobs i; rooms = rooms i; orders = orders i; moves = moves i }

  -- where the moves are changed too
  pub table_moved : (change : JobState → JobState) (move : List (List PathMove) → List (List PathMove)) → new ≡ record job { state = change job.state; moves = move job.moves }
      → table_of (slice_set items (number - 1) new) ≡ record now { jobs = job_changed (number - 1) change now.jobs; moves = changed_at (number - 1) move now.moves }
  table_moved change move made =
      let jobs = jobs_after change (ap (λ j. j.state) made) in
      let rooms = rooms_after (ap (λ j. j.room) made) in
      let orders = orders_kept (ap (λ j. j.orders) made) in
      let moves = moves_after move (ap (λ j. j.moves) made) in
      λ i. record { jobs = jobs i; rooms = rooms i; orders = orders i; moves = moves i }

  -- the same, beside what is counted of the jobs
  pub counted_after : (change : JobState → JobState) (changes bytes : ℕ) → new.state ≡ change job.state → IsCounted (job_changed (number - 1) change now.jobs) changes bytes
      → IsCounted (map (λ j. j.state) (slice_set items (number - 1) new)) changes bytes
  counted_after change changes bytes made counted = rw (jobs_after change made) counted

  -- what is counted of the jobs that are known
  pub counted_now : (changes bytes : ℕ) → IsCounted (map (λ j. j.state) items) changes bytes → IsCounted now.jobs changes bytes
  counted_now changes bytes counted = rw (← states_are) counted

  -- the jobs, where its state stays
  pub unchanged_jobs : new.state ≡ job.state → map (λ j. j.state) (slice_set items (number - 1) new) ≡ now.jobs
  unchanged_jobs same = map-set_same (λ j. j.state) items (number - 1) new job (same ∙ ap (λ j. j.state) here) ∙ states_are

  -- where its state stays and it has room for one change more, so has the job of the number
  pub room_after : {A E : Type 0} → new.state ≡ job.state → (result : Result A E) → OnOk result (HasRoom (changes_in new.state.cycle) new.room)
      → OnOk result (HasRoomFor number (table_of (slice_set items (number - 1) new)))
  room_after same (Err e) room = tt
  room_after same (Ok x) room =
      let there : slice_index (map (λ j. j.room) (slice_set items (number - 1) new)) (number - 1) ≡ new.room =
      get_or-map-at (λ j. j.room) (slice_set items (number - 1) new) (number - 1) new 0 (omega (arith, place_there, length-set items (number - 1) new)) ∙ ap (λ j. j.room)
      (get_or-set_same items (number - 1) new new place_there) in
      let jobs : job_of_number number (map (λ j. j.state) (slice_set items (number - 1) new)) ≡ new.state =
      ap (job_of_number number) (unchanged_jobs same) ∙ job_is ∙ sym same in
      rw (there, jobs) room

-- ---- what is counted, where one job is changed

module _ (jobs : List JobState) (place : ℕ) (job : JobState) (lies : place < length jobs) (here : job ≡ get_or jobs place job)
    (changes bytes : ℕ) (counted : IsCounted jobs changes bytes) where
  sum_after : (f : JobState → ℕ) (change : JobState → JobState) → sum_by f (job_changed place change jobs) + f job ≡ sum_by f jobs + f (change job)
  sum_after f change =
      let P : JobState → Type 0 = λ j. sum_by f (slice_set jobs place (change job)) + f j ≡ sum_by f jobs + f (change job) in
      let Q : List JobState → Type 0 = λ l. sum_by f l + f job ≡ sum_by f jobs + f (change job) in
      subst Q (set-job_changed jobs place change job here) (subst P (sym here) (sum_by-set f jobs place (change job) job lies))

  pub count_here : length (changes_in job.cycle) ≤ changes
  count_here =
      let P : JobState → Type 0 = λ j. length (changes_in j.cycle) ≤ changes_held jobs in
      rw counted.changes_are (subst P (sym here) (get_or-le-sum_by (λ j. length (changes_in j.cycle)) jobs place job lies))

  pub bytes_here : bytes_of (changes_in job.cycle) ≤ bytes
  bytes_here =
      let P : JobState → Type 0 = λ j. bytes_of (changes_in j.cycle) ≤ bytes_held jobs in
      rw counted.bytes_are (subst P (sym here) (get_or-le-sum_by (λ j. bytes_of (changes_in j.cycle)) jobs place job lies))

  -- the job has so many changes more
  pub counted-more : (change : JobState → JobState) (n b : ℕ) → length (changes_in (change job).cycle) ≡ length (changes_in job.cycle) + n
      → bytes_of (changes_in (change job).cycle) ≡ bytes_of (changes_in job.cycle) + b → IsCounted (job_changed place change jobs) (changes + n) (bytes + b)
  counted-more change n b longer heavier =
      let count : changes_held (job_changed place change jobs) + length (changes_in job.cycle) ≡ changes_held jobs + length (changes_in (change job).cycle) =
      sum_after (λ j. length (changes_in j.cycle)) change in
      let weight : bytes_held (job_changed place change jobs) + bytes_of (changes_in job.cycle) ≡ bytes_held jobs + bytes_of (changes_in (change job).cycle) =
      sum_after (λ j. bytes_of (changes_in j.cycle)) change in
      let same = length-job_changed place change jobs in
      let was = counted.changes_are in
      let weighed = counted.bytes_are in
      let few = counted.few in
      record { few = omega arith; changes_are = omega arith; bytes_are = omega arith }

  -- the job has no changes any more
  pub counted-less : (change : JobState → JobState) (n b : ℕ) → n ≡ length (changes_in job.cycle) → b ≡ bytes_of (changes_in job.cycle) → (change job).cycle ≡ None
      → IsCounted (job_changed place change jobs) (changes - n) (bytes - b)
  counted-less change n b count weight gone =
      let after : changes_held (job_changed place change jobs) + length (changes_in job.cycle) ≡ changes_held jobs + length (changes_in (change job).cycle) =
      sum_after (λ j. length (changes_in j.cycle)) change in
      let weight_after : bytes_held (job_changed place change jobs) + bytes_of (changes_in job.cycle) ≡ bytes_held jobs + bytes_of (changes_in (change job).cycle) =
      sum_after (λ j. bytes_of (changes_in j.cycle)) change in
      let none : length (changes_in (change job).cycle) ≡ 0 = ap (λ cycle. length (changes_in cycle)) gone in
      let light : bytes_of (changes_in (change job).cycle) ≡ 0 = ap (λ cycle. bytes_of (changes_in cycle)) gone in
      let same = length-job_changed place change jobs in
      let was = counted.changes_are in
      let weighed = counted.bytes_are in
      let few = counted.few in
      record { few = omega arith; changes_are = omega arith; bytes_are = omega arith }

  -- the job's commit cycle stays
  pub counted-kept : (change : JobState → JobState) → (change job).cycle ≡ job.cycle → IsCounted (job_changed place change jobs) changes bytes
  counted-kept change stays =
      let same_count : length (changes_in (change job).cycle) ≡ length (changes_in job.cycle) + 0 = ap (λ cycle. length (changes_in cycle)) stays ∙ omega arith in
      let same_weight : bytes_of (changes_in (change job).cycle) ≡ bytes_of (changes_in job.cycle) + 0 = ap (λ cycle. bytes_of (changes_in cycle)) stays ∙ omega arith in
      let h = counted-more change 0 0 same_count same_weight in
      rw (add-zero, add-zero) at h

-- ---- both

module _ (items : List RoomyJob) (now : JobTable) (number : ℕ) (job new : RoomyJob) (view_is : table_of items ≡ now)
    (running : IsTrue (is_running (job_at number now.jobs))) (here : job ≡ get_or items (number - 1) job)
    (change : JobState → JobState) (changes bytes : ℕ) (made : new.state ≡ change job.state) where
  pub counted_kept : (change job.state).cycle ≡ job.state.cycle → IsCounted (map (λ j. j.state) items) changes bytes → IsCounted (map (λ j. j.state) (slice_set items (number - 1) new)) changes bytes
  counted_kept stays counted =
      counted_after items now number job new view_is running here change changes bytes made
      (counted-kept now.jobs (number - 1) job.state (stands items now number job new view_is running here).last (state_here items now number job new view_is running here) changes bytes
      (counted_now items now number job new view_is running here changes bytes counted) change stays)

  pub counted_end : (n b : ℕ) → n ≡ length (changes_in job.state.cycle) → b ≡ bytes_of (changes_in job.state.cycle) → (change job.state).cycle ≡ None
      → IsCounted (map (λ j. j.state) items) changes bytes → IsCounted (map (λ j. j.state) (slice_set items (number - 1) new)) (changes - n) (bytes - b)
  counted_end n b count weight gone counted =
      counted_after items now number job new view_is running here change (changes - n) (bytes - b) made
      (counted-less now.jobs (number - 1) job.state (stands items now number job new view_is running here).last (state_here items now number job new view_is running here) changes bytes
      (counted_now items now number job new view_is running here changes bytes counted) change n b count weight gone)

module _ (items : List RoomyJob) (now : JobTable) (number : ℕ) (job : RoomyJob) (view_is : table_of items ≡ now)
    (running : IsTrue (is_running (job_at number now.jobs))) (here : job ≡ get_or items (number - 1) job)
    (changes bytes : ℕ) (counted : IsCounted (map (λ j. j.state) items) changes bytes) where
  pub count_within : length (changes_in job.state.cycle) ≤ changes
  count_within =
      count_here now.jobs (number - 1) job.state (stands items now number job job view_is running here).last (state_here items now number job job view_is running here) changes bytes
      (counted_now items now number job job view_is running here changes bytes counted)

  pub bytes_within : bytes_of (changes_in job.state.cycle) ≤ bytes
  bytes_within =
      bytes_here now.jobs (number - 1) job.state (stands items now number job job view_is running here).last (state_here items now number job job view_is running here) changes bytes
      (counted_now items now number job job view_is running here changes bytes counted)

  pub few_bytes : (undo : MemberChange) → bytes_held now.jobs + change_bytes undo ≤ MOST_GROUP_BYTES → bytes_of (changes_in job.state.cycle) + change_bytes undo ≤ MOST_GROUP_BYTES
  few_bytes undo few = omega (arith, bytes_within, (counted_now items now number job job view_is running here changes bytes counted).bytes_are)

-- the changes of a cycle that a change is noted in
pub noted-changes : (sequence : ℕ) (cycle : Option CycleState) → (cycle_from sequence cycle).undos ≡ changes_in cycle
noted-changes sequence None = refl
noted-changes sequence (Some cycle) = refl

-- one move more for one change more
pub counted-noted : (moves : List (List PathMove)) (cycle : Option CycleState) (sequence : ℕ) (undone : List PathMove) (undo : MemberChange) → length moves ≡ length (changes_in cycle)
    → length (undone ∷ moves) ≡ length (undo ∷ (cycle_from sequence cycle).undos)
counted-noted moves cycle sequence undone undo same =
    let changes : length (cycle_from sequence cycle).undos ≡ length (changes_in cycle) = ap (λ l. length l) (noted-changes sequence cycle) in
    omega arith

-- a change noted
module _ (items : List RoomyJob) (now : JobTable) (number : ℕ) (job new : RoomyJob) (view_is : table_of items ≡ now)
    (running : IsTrue (is_running (job_at number now.jobs))) (here : job ≡ get_or items (number - 1) job)
    (sequence : ℕ) (undo : MemberChange) where
  pub counted_note : (changes bytes : ℕ) → new.state ≡ with_cycle (noted undo (cycle_from sequence job.state.cycle)) job.state → IsCounted (map (λ j. j.state) items) changes bytes
      → IsCounted (map (λ j. j.state) (slice_set items (number - 1) new)) (changes + 1) (bytes + change_bytes undo)
  counted_note changes bytes made counted =
      let same = noted-changes sequence job.state.cycle in
      let longer : length (undo ∷ (cycle_from sequence job.state.cycle).undos) ≡ length (changes_in job.state.cycle) + 1 = ap (λ l. length (undo ∷ l)) same ∙ omega arith in
      let heavier : bytes_of (undo ∷ (cycle_from sequence job.state.cycle).undos) ≡ bytes_of (changes_in job.state.cycle) + change_bytes undo =
      ap (λ l. bytes_of (undo ∷ l)) same ∙ sum_by-cons change_bytes undo (changes_in job.state.cycle) ∙ omega arith in
      counted_after items now number job new view_is running here (with_cycle (noted undo (cycle_from sequence job.state.cycle))) (changes + 1) (bytes + change_bytes undo) made
      (counted-more now.jobs (number - 1) job.state (stands items now number job new view_is running here).last (state_here items now number job new view_is running here) changes bytes
      (counted_now items now number job new view_is running here changes bytes counted) (with_cycle (noted undo (cycle_from sequence job.state.cycle))) 1 (change_bytes undo) longer heavier)

  pub noted_table : (undone : List PathMove) → new ≡ record job { state = with_cycle (noted undo (cycle_from sequence job.state.cycle)) job.state; moves = undone ∷ job.moves }
      → table_of (slice_set items (number - 1) new) ≡ record now {
        jobs = job_changed (number - 1) (with_cycle (noted undo (cycle_from sequence (job_of_number number now.jobs).cycle))) now.jobs;
        moves = changed_at (number - 1) (λ moves. undone ∷ moves) now.moves;
      }
  noted_table undone made =
      rw (job_is items now number job new view_is running here)
      (table_moved items now number job new view_is running here (with_cycle (noted undo (cycle_from sequence job.state.cycle))) (λ moves. undone ∷ moves) made)

-- an open more
module _ (items : List RoomyJob) (now : JobTable) (number : ℕ) (job new : RoomyJob) (view_is : table_of items ≡ now)
    (running : IsTrue (is_running (job_at number now.jobs))) (here : job ≡ get_or items (number - 1) job)
    (change : JobState → JobState) (order : ℕ → List ℕ × OpenOrder) where
  pub opened_table : new ≡ record job { state = change job.state; orders = job.orders ++ order (job.state.opened + 1) ∷ [] }
      → table_of (slice_set items (number - 1) new) ≡ record now
      { jobs = job_changed (number - 1) change now.jobs; orders = changed_at (number - 1) (λ orders. orders ++ order ((job_of_number number now.jobs).opened + 1) ∷ []) now.orders }
  opened_table made =
      rw (job_is items now number job new view_is running here)
      (table_ordered items now number job new view_is running here change (λ orders. orders ++ order (job.state.opened + 1) ∷ []) made)

-- ---- the opens of a job, changed

module _ (items : List RoomyJob) (now : JobTable) (number : ℕ) (job new : RoomyJob) (view_is : table_of items ≡ now)
    (running : IsTrue (is_running (job_at number now.jobs))) (here : job ≡ get_or items (number - 1) job) (change : OpenChange) where
  pub changed_table : new ≡ record job { state = job_after change job.orders job.state }
      → table_of (slice_set items (number - 1) new) ≡ record now { jobs = job_changed (number - 1) (job_after change (orders_at number now)) now.jobs }
  changed_table made =
      rw (orders_is items now number job new view_is running here) (table_after items now number job new view_is running here (job_after change job.orders) made)

  pub ordered_here : IsWhole job → AllZip SameOpen (job_of_number number now.jobs).opens (orders_at number now)
  ordered_here whole = rw (orders_is items now number job new view_is running here, job_is items now number job new view_is running here) whole.ordered

-- where the change makes of the opens what a function makes of each
pub job_after-each : (change : OpenChange) (each : OpenState → OpenState) (number : ℕ) (orders : Named OpenOrder) (jobs : List JobState) → IsTrue (is_running (job_at number jobs))
    → opens_after change (job_of_number number jobs).opens orders ≡ map (λ entry. (entry.0, each entry.1)) (job_of_number number jobs).opens
    → job_changed (number - 1) (job_after change orders) jobs ≡ job_changed (number - 1) (with_opens each) jobs
job_after-each change each number orders jobs running same =
    let place : job_of_number number jobs ≡ get_or jobs (number - 1) (new_job []) =
    ap or_new (job_at-place jobs number (running-Stands jobs number running).first) ∙ or_new-get_or jobs (number - 1) in
    job_changed-same (number - 1) (job_after change orders) (with_opens each) jobs (new_job [])
    (let P : JobState → Type 0 = λ j. job_after change orders j ≡ with_opens each j in subst P place (λ i. record (job_of_number number jobs) { opens = same i }))

-- the same of the table
pub changed-each : (change : OpenChange) (each : OpenState → OpenState) (number : ℕ) (old new : JobTable) → IsTrue (is_running (job_at number old.jobs))
    → new ≡ record old { jobs = job_changed (number - 1) (job_after change (orders_at number old)) old.jobs }
    → opens_after change (job_of_number number old.jobs).opens (orders_at number old) ≡ map (λ entry. (entry.0, each entry.1)) (job_of_number number old.jobs).opens
    → new ≡ record old { jobs = job_changed (number - 1) (with_opens each) old.jobs }
changed-each change each number old new running made same =
    let jobs = job_after-each change each number (orders_at number old) old.jobs running same in
    made ∙ (λ i. record old { jobs = jobs i })

-- ---- all jobs are whole

pub whole_here : (items : List RoomyJob) (place : ℕ) (job : RoomyJob) → All IsWhole items → place < length items → job ≡ get_or items place job → IsWhole job
whole_here items place job all within here = subst IsWhole (sym here) (all place job within)

pub ordered_all : (items : List RoomyJob) → All IsWhole items → AllZip (λ job orders. AllZip SameOpen job.opens orders) (map (λ j. j.state) items) (map (λ j. j.orders) items)
ordered_all [] all = tt
ordered_all (job ∷ items) all = ((all 0 job (omega arith)).ordered, ordered_all items (λ k d within. all (suc k) d (omega arith)))

pub counted_all : (items : List RoomyJob) → All IsWhole items → AllZip (λ job moves. length moves ≡ length (changes_in job.cycle)) (map (λ j. j.state) items) (map (λ j. j.moves) items)
counted_all [] all = tt
counted_all (job ∷ items) all = ((all 0 job (omega arith)).counted, counted_all items (λ k d within. all (suc k) d (omega arith)))

-- a job that has begun
pub begun : (items : List RoomyJob) (now : JobTable) (name : List ℕ) (job : RoomyJob) (changes bytes : ℕ) → table_of items ≡ now → length now.jobs < 4294967295
    → IsCounted (map (λ j. j.state) items) changes bytes → All IsWhole items → job.state ≡ new_job name → job.orders ≡ [] → job.moves ≡ []
    → IsCounted (map (λ j. j.state) (items ++ job ∷ [])) changes bytes × All IsWhole (items ++ job ∷ [])
begun items now name job changes bytes view_is few counted whole state_is orders_are moves_are =
    let states : map (λ j. j.state) (items ++ job ∷ []) ≡ map (λ j. j.state) items ++ job.state ∷ [] = map-append (λ (j : RoomyJob). j.state) items (job ∷ []) in
    let long : length (map (λ j. j.state) items ++ job.state ∷ []) ≡ length (map (λ j. j.state) items) + 1 = length-append (map (λ j. j.state) items) (job.state ∷ []) in
    let same : length (map (λ j. j.state) items) ≡ length now.jobs = ap (λ t. length t.jobs) view_is in
    let none : length (changes_in job.state.cycle) ≡ 0 = ap (λ s. length (changes_in s.cycle)) state_is in
    let light : bytes_of (changes_in job.state.cycle) ≡ 0 = ap (λ s. bytes_of (changes_in s.cycle)) state_is in
    let count : changes_held (map (λ j. j.state) items ++ job.state ∷ []) ≡ changes_held (map (λ j. j.state) items) + changes_held (job.state ∷ []) =
    sum_by-append (λ j. length (changes_in j.cycle)) (map (λ j. j.state) items) (job.state ∷ []) in
    let weight : bytes_held (map (λ j. j.state) items ++ job.state ∷ []) ≡ bytes_held (map (λ j. j.state) items) + bytes_held (job.state ∷ []) =
    sum_by-append (λ j. bytes_of (changes_in j.cycle)) (map (λ j. j.state) items) (job.state ∷ []) in
    let one : changes_held (job.state ∷ []) ≡ length (changes_in job.state.cycle) + 0 = sum_by-cons (λ j. length (changes_in j.cycle)) job.state [] in
    let one_weight : bytes_held (job.state ∷ []) ≡ bytes_of (changes_in job.state.cycle) + 0 = sum_by-cons (λ j. bytes_of (changes_in j.cycle)) job.state [] in
    let was = counted.changes_are in
    let weighed = counted.bytes_are in
    let after : IsCounted (map (λ j. j.state) items ++ job.state ∷ []) changes bytes = record { few = omega arith; changes_are = omega arith; bytes_are = omega arith } in
    let ordered : AllZip SameOpen job.state.opens job.orders =
    subst (λ (s : JobState). AllZip SameOpen s.opens job.orders) (sym state_is) (subst (λ (o : Named OpenOrder). AllZip SameOpen [] o) (sym orders_are) tt) in
    let moved : length job.moves ≡ length (changes_in job.state.cycle) = ap (λ l. length l) moves_are ∙ sym none in
    (rw states after, All-push IsWhole items job whole (record { ordered = ordered; counted = moved }))
