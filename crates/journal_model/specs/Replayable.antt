-- Which journals can be replayed, as far as the slots and commit cycles of one member are concerned?
-- (Commitment Control, "Journal management with commitment control". A journal that can't be replayed is damaged.)
use Rattle.std.specs.Prelude.{ℕ, ◌≡◌, ◌≤◌, ◌<◌, Bool, true, false, ◌&&◌, ◌||◌, ◌==◌, not, nat_le, nat_lt, is_none, IsTrue, List, [], ◌∷◌, length, Option, Some, None, ⊤}
use Rattle.std.specs.List.{filter, list_any, list_all, AllByRecursion}
use Rattle.member_slots.specs.declared.slot.Slot.{Slot}
use Rattle.journal_model.specs.Acts.{Act, Changed, Began, Committed, RolledBack, Journaled, Stood, Cleared, Reorganized, Ended, Nothing, Change, is_same_number}
use Rattle.journal_model.specs.Places.{slot_of, is_same_slot}
use Rattle.journal_model.specs.Walks.{is_met}
use Rattle.journal_model.specs.Replay.{State, step, is_in, back}

abbrev pub is_one_of : List ℕ → ℕ → Bool
is_one_of numbers n = list_any (λ m. m == n) numbers

-- ---- the relation

-- a change of an open commit cycle has its before side, and so has one outside commitment control, or its slot is live
abbrev pub AgreesBefore : Option Slot → Option ℕ → Slot → Type 0
AgreesBefore (Some side) cycle slot = slot ≡ side
AgreesBefore None cycle slot = (cycle ≡ None) × IsTrue (is_met None slot)

-- the commit cycle of a change is open, where it is of one
abbrev pub IsOpen : List ℕ → Option ℕ → Type 0
IsOpen cycles None = ⊤
IsOpen cycles (Some n) = IsTrue (is_one_of cycles n)

-- what open commit cycles changed at the place of this change was changed by its own
abbrev pub IsAlone : Change → List Change → Type 0
IsAlone c undos = AllByRecursion (λ (d : Change). d.place ≡ c.place → d.cycle ≡ c.cycle) undos

pub record MayChange (s : State) (c : Change) : Type 0 where
  pub place : c.place ≤ length s.slots
  pub before : AgreesBefore c.before c.cycle (slot_of s.slots c.place)
  pub cycle : IsOpen s.cycles c.cycle
  pub alone : IsAlone c s.undos

-- each record that the commit cycle changed is again as before its first change of it
pub record MayRollBack (s : State) (n : ℕ) : Type 0 where
  pub begun : IsTrue (is_one_of s.cycles n)
  pub restored : (place : ℕ) → back place (filter (is_in n) s.undos) (slot_of s.slots place) ≡ slot_of s.slots place

-- no open commit cycle has changed the member
abbrev pub IsFree : State → Type 0
IsFree s = s.undos ≡ []

pub record MayStand (s : State) (place : ℕ) : Type 0 where
  pub free : IsFree s
  pub there : place < length s.slots

abbrev pub MayFollow : State → Act → Type 0
MayFollow s (Changed c) = MayChange s c
MayFollow s (Began n) = n ≡ s.next
MayFollow s (Committed n) = IsTrue (is_one_of s.cycles n)
MayFollow s (RolledBack n) = MayRollBack s n
MayFollow s (Journaled images number) = IsFree s
MayFollow s (Stood place image) = MayStand s place
MayFollow s Cleared = IsFree s
MayFollow s Reorganized = IsFree s
MayFollow s Ended = IsFree s
MayFollow s Nothing = ⊤

abbrev pub CanReplay : State → List Act → Type 0
CanReplay s [] = ⊤
CanReplay s (a ∷ rest) = MayFollow s a × CanReplay (step s a) rest

-- ---- the test

abbrev pub agrees_before : Option Slot → Option ℕ → Slot → Bool
agrees_before (Some side) cycle slot = is_same_slot slot side
agrees_before None cycle slot = is_none cycle && is_met None slot

abbrev pub is_open : List ℕ → Option ℕ → Bool
is_open cycles None = true
is_open cycles (Some n) = is_one_of cycles n

abbrev pub is_alone : Change → List Change → Bool
is_alone c undos = list_all (λ (d : Change). not (d.place == c.place) || is_same_number d.cycle c.cycle) undos

abbrev pub may_change : State → Change → Bool
may_change s c = nat_le c.place (length s.slots) && agrees_before c.before c.cycle (slot_of s.slots c.place) && is_open s.cycles c.cycle && is_alone c s.undos

-- only places that the commit cycle changed are looked at
abbrev pub is_restored : (undos all : List Change) → List Slot → Bool
is_restored undos all slots = list_all (λ (c : Change). is_same_slot (back c.place all (slot_of slots c.place)) (slot_of slots c.place)) undos

abbrev pub may_roll_back : State → ℕ → Bool
may_roll_back s n = is_one_of s.cycles n && is_restored (filter (is_in n) s.undos) (filter (is_in n) s.undos) s.slots

abbrev pub is_free : List Change → Bool
is_free [] = true
is_free (c ∷ undos) = false

abbrev pub may_follow : State → Act → Bool
may_follow s (Changed c) = may_change s c
may_follow s (Began n) = n == s.next
may_follow s (Committed n) = is_one_of s.cycles n
may_follow s (RolledBack n) = may_roll_back s n
may_follow s (Journaled images number) = is_free s.undos
may_follow s (Stood place image) = is_free s.undos && nat_lt place (length s.slots)
may_follow s Cleared = is_free s.undos
may_follow s Reorganized = is_free s.undos
may_follow s Ended = is_free s.undos
may_follow s Nothing = true

abbrev pub can_replay : State → List Act → Bool
can_replay s [] = true
can_replay s (a ∷ rest) = may_follow s a && can_replay (step s a) rest
