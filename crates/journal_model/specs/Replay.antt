-- What does a member become by the acts of the journal, one after the other?
-- (Journal Management, "Recovery operations using journaling".)
use Rattle.std.specs.Prelude.{ℕ, ◌+◌, Bool, ◌==◌, not, if◌then◌else◌, List, [], ◌∷◌, ◌++◌, replicate, Option, Some, None, unwrap_or}
use Rattle.std.specs.List.{filter}
use Rattle.member_slots.specs.declared.slot.Slot.{Slot}
use Rattle.member_slots.specs.declared.slot.Slot.TheVariants.{Live, Deleted}
use Rattle.member_slots.specs.Member.{is_live}
use Rattle.journal_model.specs.Acts.{Act, Changed, Began, Committed, RolledBack, Journaled, Stood, Cleared, Reorganized, Ended, Nothing, Change, is_number}
use Rattle.journal_model.specs.Places.{put_slot}

-- ---- the slots alone

abbrev pub moved : List Slot → Act → List Slot
moved slots (Changed c) = put_slot slots c.place c.after
moved slots (Began n) = slots
moved slots (Committed n) = slots
moved slots (RolledBack n) = slots
moved slots (Journaled images number) = replicate number Deleted
moved slots (Stood place image) = put_slot slots place (Live image)
moved slots Cleared = []
moved slots Reorganized = filter is_live slots
moved slots Ended = slots
moved slots Nothing = slots

abbrev pub all_moved : List Slot → List Act → List Slot
all_moved slots [] = slots
all_moved slots (a ∷ rest) = all_moved (moved slots a) rest

-- ---- the slots with the open commit cycles and what they changed

pub record State : Type 0 where
  pub slots : List Slot
  -- the commit cycles that are open, in the order of their beginnings
  pub cycles : List ℕ
  -- the changes of these, the last one first
  pub undos : List Change
  -- the sequence of the entry that comes next
  pub next : ℕ

-- as a checkpoint leaves a member: no commit cycle is open
abbrev pub state_at : ℕ → List Slot → State
state_at next slots = record { slots = slots; cycles = []; undos = []; next = next }

-- the change is of this commit cycle
abbrev pub is_in : ℕ → Change → Bool
is_in n c = is_number c.cycle n

abbrev pub is_not_in : ℕ → Change → Bool
is_not_in n c = not (is_in n c)

abbrev pub is_other : ℕ → ℕ → Bool
is_other n m = not (m == n)

-- a change outside commitment control is never undone
abbrev pub noted : Option ℕ → Change → List Change → List Change
noted None c undos = undos
noted (Some n) c undos = c ∷ undos

abbrev pub cycles_after : List ℕ → Act → List ℕ
cycles_after cycles (Began n) = cycles ++ n ∷ []
cycles_after cycles (Committed n) = filter (is_other n) cycles
cycles_after cycles (RolledBack n) = filter (is_other n) cycles
cycles_after cycles (Changed c) = cycles
cycles_after cycles (Journaled images number) = cycles
cycles_after cycles (Stood place image) = cycles
cycles_after cycles Cleared = cycles
cycles_after cycles Reorganized = cycles
cycles_after cycles Ended = cycles
cycles_after cycles Nothing = cycles

abbrev pub undos_after : List Change → Act → List Change
undos_after undos (Changed c) = noted c.cycle c undos
undos_after undos (Committed n) = filter (is_not_in n) undos
undos_after undos (RolledBack n) = filter (is_not_in n) undos
undos_after undos (Began n) = undos
undos_after undos (Journaled images number) = undos
undos_after undos (Stood place image) = undos
undos_after undos Cleared = undos
undos_after undos Reorganized = undos
undos_after undos Ended = undos
undos_after undos Nothing = undos

abbrev pub step : State → Act → State
step s a = record { slots = moved s.slots a; cycles = cycles_after s.cycles a; undos = undos_after s.undos a; next = s.next + 1 }

abbrev pub replay : State → List Act → State
replay s [] = s
replay s (a ∷ rest) = replay (step s a) rest

-- ---- undoing

abbrev pub before_of : Change → Slot
before_of c = unwrap_or c.before Deleted

-- the slot at a place, once these changes are undone, the first of the list first
abbrev pub back : ℕ → List Change → Slot → Slot
back place [] slot = slot
back place (c ∷ undos) slot = back place undos (if c.place == place then before_of c else slot)
