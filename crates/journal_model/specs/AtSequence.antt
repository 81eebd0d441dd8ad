-- How was a record at a sequence of the journal, by the entries that stand before it and after it? And do the entries
-- of one record follow one from the other? (Journal Management, "Removing journaled changes". The rule is this
-- project's own.)
use Rattle.std.specs.Prelude.{ℕ, ◌≡◌, Bool, ◌==◌, if◌then◌else◌, List, [], ◌∷◌, Option, Some, None, ⊤}
use Rattle.std.specs.List.{list_any}
use Rattle.member_slots.specs.declared.slot.Slot.{Slot}
use Rattle.member_slots.specs.declared.slot.Slot.TheVariants.{Live}
use Rattle.journal_model.specs.Acts.{Act, Changed, Began, Committed, RolledBack, Journaled, Stood, Cleared, Reorganized, Ended, Nothing, Change, changes}
use Rattle.journal_model.specs.Ranges.{is_break}

-- what is known of a record after an act: the slot that the act leaves; a break of the member makes it unknown
abbrev pub known_by : ℕ → Option Slot → Act → Option Slot
known_by place known (Changed c) = if c.place == place then Some c.after else known
known_by place known (Stood other image) = if other == place then Some (Live image) else known
known_by place known (Journaled images number) = None
known_by place known Cleared = None
known_by place known Reorganized = None
known_by place known Ended = None
known_by place known (Began n) = known
known_by place known (Committed n) = known
known_by place known (RolledBack n) = known
known_by place known Nothing = known

abbrev pub known_after : ℕ → Option Slot → List Act → Option Slot
known_after place known [] = known
known_after place known (a ∷ rest) = known_after place (known_by place known a) rest

-- the before side of the first change of the record
abbrev pub first_before : ℕ → List Change → Option Slot
first_before place [] = None
first_before place (c ∷ rest) = if c.place == place then c.before else first_before place rest

abbrev pub or_else : Option Slot → Option Slot → Option Slot
or_else (Some slot) other = Some slot
or_else None other = other

-- the slot between the acts up to a sequence and those after it; None where the journal doesn't tell
abbrev pub slot_at : (place : ℕ) → (before after : List Act) → Option Slot
slot_at place before after = or_else (known_after place None before) (first_before place (changes after))

-- a change of the record is among these
abbrev pub touches : ℕ → List Change → Bool
touches place changes = list_any (λ (c : Change). c.place == place) changes

-- the acts up to the member's next break
abbrev pub before_break : List Act → List Act
before_break [] = []
before_break (a ∷ rest) = if is_break a then [] else a ∷ before_break rest

-- what is known of a record is so
abbrev pub IsSo : Option Slot → Slot → Type 0
IsSo None slot = ⊤
IsSo (Some known) slot = known ≡ slot

-- ---- the entries of one record

-- a before side that is there agrees with what is known
abbrev pub Agrees : Option Slot → Option Slot → Type 0
Agrees None before = ⊤
Agrees (Some slot) None = ⊤
Agrees (Some slot) (Some side) = slot ≡ side

abbrev pub FollowsKnown : ℕ → Option Slot → Act → Type 0
FollowsKnown place known (Changed c) = c.place ≡ place → Agrees known c.before
FollowsKnown place known (Stood other image) = ⊤
FollowsKnown place known (Journaled images number) = ⊤
FollowsKnown place known Cleared = ⊤
FollowsKnown place known Reorganized = ⊤
FollowsKnown place known Ended = ⊤
FollowsKnown place known (Began n) = ⊤
FollowsKnown place known (Committed n) = ⊤
FollowsKnown place known (RolledBack n) = ⊤
FollowsKnown place known Nothing = ⊤

-- between two breaks each before side is the after side of the change before it
abbrev pub IsChained : ℕ → Option Slot → List Act → Type 0
IsChained place known [] = ⊤
IsChained place known (a ∷ rest) = FollowsKnown place known a × IsChained place (known_by place known a) rest
