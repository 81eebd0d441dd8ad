-- What does the library's restart add to the journal, where commit cycles are open?
-- (Commitment Control, "Commitment control during abnormal job end and restart". That restart deposits what a ROLLBACK
-- of each open commit cycle would, in the order of their beginnings, is this project's own.)
use Rattle.std.specs.Prelude.{ℕ, Bool, true, false, List, [], ◌∷◌, ◌++◌, Some}
use Rattle.std.specs.List.{filter}
use Rattle.member_slots.specs.declared.slot.Slot.{Slot}
use Rattle.journal_model.specs.Acts.{Act, Changed, Began, Committed, RolledBack, Journaled, Stood, Cleared, Reorganized, Ended, Nothing, Change}
use Rattle.journal_model.specs.Replay.{all_moved, State, is_in, before_of}

-- the change that takes a change back
abbrev pub inverse : Change → Change
inverse c = record { place = c.place; cycle = c.cycle; before = Some c.after; after = before_of c }

abbrev pub undo_acts : List Change → List Act
undo_acts [] = []
undo_acts (c ∷ undos) = Changed (inverse c) ∷ undo_acts undos

-- a commit cycle is rolled back: its changes are taken back, the last one first
abbrev pub rollback_acts : ℕ → List Change → List Act
rollback_acts n undos = undo_acts (filter (is_in n) undos) ++ RolledBack n ∷ []

abbrev pub all_rollback_acts : List ℕ → List Change → List Act
all_rollback_acts [] undos = []
all_rollback_acts (n ∷ cycles) undos = rollback_acts n undos ++ all_rollback_acts cycles undos

-- what restart does to the member, its before images and what it does to other members aside
abbrev pub restart_acts : State → List Act
restart_acts s = all_rollback_acts s.cycles s.undos

-- the member, once every open commit cycle is rolled back
abbrev pub all_undone : State → List Slot
all_undone s = all_moved s.slots (restart_acts s)

abbrev pub is_something : Act → Bool
is_something Nothing = false
is_something (Changed c) = true
is_something (Began n) = true
is_something (Committed n) = true
is_something (RolledBack n) = true
is_something (Journaled images number) = true
is_something (Stood place image) = true
is_something Cleared = true
is_something Reorganized = true
is_something Ended = true

-- a block of the journal does to the member what restart has to
abbrev pub somethings : List Act → List Act
somethings block = filter is_something block
