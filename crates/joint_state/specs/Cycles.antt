-- What an open commit cycle has changed is locked to the boundary, and stands as it was made. (Commitment Control.)
use Rattle.std.specs.Prelude.{◌≡◌, ℕ, ◌+◌, ◌≤◌, true, false, None, IsSome, IfSome, List, [], ◌∷◌}
use Rattle.std.specs.List.{AllByRecursion}
use Rattle.member_slots.specs.Members.{NumberedMembers, member_of, with_member}
use Rattle.member_slots.specs.Member.{changed}
use Rattle.lock_table.specs.Table.{HoldsChange}
use Rattle.journaled_entries.specs.Places.{slot_of}
use Rattle.journaled_entries.specs.Replay.{before_of}
use Rattle.journaled_entries.specs.Rollback.{MemberChange}
use Rattle.lawful_states.specs.State.{Memory, CycleState, JobState}
use Rattle.lawful_states.specs.SlotChange.{images_of}
use Rattle.lawful_states.specs.Uses.{changes_in}

-- the job with this number has the lock of each record that its open commit cycle changed
abbrev pub ChangesAreLocked : Memory → ℕ → JobState → Type 0
ChangesAreLocked m number job =
    AllByRecursion (λ undo. HoldsChange number (record { member = undo.member; rrn = undo.change.place + 1 }) m.locks) (changes_in job.cycle)

-- each change stands as it was made once the later ones are taken back, the last one first
abbrev pub StandAsMade : List MemberChange → NumberedMembers → Type 0
StandAsMade [] members = Unit {0}
StandAsMade (undo ∷ undos) members =
    (slot_of (member_of undo.member members).slots undo.change.place ≡ undo.change.after)
    × StandAsMade undos (with_member undo.member (changed (member_of undo.member members) (undo.change.place + 1) (before_of undo.change)) members)

-- a job that isn't under commitment control has no open commit cycle and no open under it
pub record IsUnderControl (job : JobState) : Type 0 where
  pub cycle : job.level ≡ None → job.cycle ≡ None
  pub opens : job.level ≡ None → AllByRecursion (λ entry. entry.1.commit ≡ false) job.opens

-- an open commit cycle began with an entry of the journal
abbrev pub HasBegun : Memory → JobState → Type 0
HasBegun m job = IfSome job.cycle (λ cycle. cycle.sequence ≤ m.last_entry)

-- the members of the job's opens under commitment are journaled, so that each commit cycle begins with an entry
abbrev pub AreJournaled : Memory → JobState → Type 0
AreJournaled m job = AllByRecursion (λ entry. entry.1.commit ≡ true → AllByRecursion (λ member. IsSome (images_of member m)) entry.1.members) job.opens
