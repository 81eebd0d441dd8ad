-- Which records does a journal leave for good, with every commit cycle that isn't committed taken away?
-- (Commitment Control, "Commitment control during abnormal job end and restart".) Nothing is undone here: the
-- changes of the other commit cycles are left out, wherever they stand.
use Rattle.std.specs.Prelude.{ℕ, Bool, true, List, Option, Some, None}
use Rattle.std.specs.List.{filter, list_any}
use Rattle.member_slots.specs.declared.slot.Slot.{Slot}
use Rattle.journal_model.specs.Acts.{Act, Changed, Began, Committed, RolledBack, Journaled, Stood, Cleared, Reorganized, Ended, Nothing}
use Rattle.journal_model.specs.Closed.{commits}
use Rattle.journal_model.specs.Replay.{all_moved}

-- the journal commits this commit cycle
abbrev pub has_commit : List Act → ℕ → Bool
has_commit journal n = list_any (commits n) journal

-- what is outside commitment control stays, and what is of a commit cycle that commits
abbrev pub stays : (ℕ → Bool) → Option ℕ → Bool
stays commit None = true
stays commit (Some n) = commit n

abbrev pub is_kept : (ℕ → Bool) → Act → Bool
is_kept commit (Changed c) = stays commit c.cycle
is_kept commit (Began n) = true
is_kept commit (Committed n) = true
is_kept commit (RolledBack n) = true
is_kept commit (Journaled images number) = true
is_kept commit (Stood place image) = true
is_kept commit Cleared = true
is_kept commit Reorganized = true
is_kept commit Ended = true
is_kept commit Nothing = true

-- the records alone: how many deleted slots lie behind the last record is what replaying leaves
abbrev pub settled : List Slot → List Act → List Slot
settled slots journal = all_moved slots (filter (is_kept (has_commit journal)) journal)
