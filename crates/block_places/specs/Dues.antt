-- For how many forced calls there has to be room, so that the requests that want no memory can be acknowledged: one for the end of each job that
-- runs, and one for the end of each open commit cycle. (Our own.)
use Rattle.std.specs.Prelude.{ℕ, ◌+◌, Bool, true, false, ◌||◌, if◌then◌else◌, Option, Some, None, List, [], ◌∷◌}
use Rattle.entry_codec.specs.declared.entries.Entry.{Entry}
use Rattle.library_steps.specs.State.{CycleState, JobState}
use Rattle.library_steps.specs.Change.{Change}

abbrev pub cycle_due : Option CycleState → ℕ
cycle_due None = 0
cycle_due (Some cycle) = 1

abbrev pub place_due : JobState → ℕ
place_due job = if job.ended then 0 else 1 + cycle_due job.cycle

abbrev pub places_due : List JobState → ℕ
places_due [] = 0
places_due (job ∷ jobs) = place_due job + places_due jobs

abbrev pub has_entries : List Entry → Bool
has_entries [] = false
has_entries (e ∷ entries) = true

-- a call is forced only where its change asks for it or deposits something
abbrev pub place_used : Change → ℕ
place_used c = if c.forced || has_entries c.entries then 1 else 0
