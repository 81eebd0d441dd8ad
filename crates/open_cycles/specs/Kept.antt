-- Which changes are kept at which places, and what is found by a commit cycle, a record or a member?
-- (Commitment Control, "Journal management with commitment control".) Places count from 0 in the order of the changes.
use Rattle.std.specs.Prelude.{ℕ, ◌+◌, ◌==◌, ◌≡◌, Bool, true, false, ◌&&◌, ◌||◌, not, nat_eq, if◌then◌else◌, List, [], ◌∷◌, ◌++◌, Option, Some, None, unwrap_or, get_or}
use Rattle.std.specs.List.{list_all}
use Rattle.member_slots.specs.declared.slot.Slot.{Slot}
use Rattle.journal_model.specs.Places.{slot_of}
use Rattle.journal_model.specs.Replay.{is_in}
use Rattle.journal_model.specs.Rollback.{MemberChange}
use Rattle.journal_replay.specs.Tests.{is_apart, is_back, first_before}

-- a record: its member, and its place there, counted from 0
abbrev pub same_record : ℕ × ℕ → ℕ × ℕ → Bool
same_record r q = nat_eq r.0 q.0 && nat_eq r.1 q.1

abbrev pub is_of : (cycle : ℕ) → MemberChange → Bool
is_of cycle c = is_in cycle c.change

abbrev pub is_about : ℕ × ℕ → MemberChange → Bool
is_about r c = nat_eq c.member r.0 && nat_eq c.change.place r.1

-- ---- by places; a change whose commit cycle has ended leaves its place empty

-- the changes that are kept, the last one first
abbrev pub live : List (Option MemberChange) → List MemberChange
live [] = []
live (None ∷ kept) = live kept
live (Some c ∷ kept) = live kept ++ c ∷ []

abbrev pub is_kept : (MemberChange → Bool) → Option MemberChange → Bool
is_kept p None = false
is_kept p (Some c) = p c

-- the places of the changes that pass the test, from this place on
abbrev pub places_by : (MemberChange → Bool) → (place : ℕ) → List (Option MemberChange) → List ℕ
places_by p place [] = []
places_by p place (x ∷ kept) = if is_kept p x then place ∷ places_by p (place + 1) kept else places_by p (place + 1) kept

-- the first of them
abbrev pub first_by : (MemberChange → Bool) → (place : ℕ) → List (Option MemberChange) → Option ℕ
first_by p place [] = None
first_by p place (x ∷ kept) = if is_kept p x then Some place else first_by p (place + 1) kept

-- the one that came first
abbrev pub first_after : Option ℕ → Option ℕ → Option ℕ
first_after None other = other
first_after (Some place) other = Some place

abbrev pub is_at : (place : ℕ) → Option ℕ → Bool
is_at place None = false
is_at place (Some first) = nat_eq first place

-- the change at a place
abbrev pub got : List (Option MemberChange) → (place : ℕ) → Option MemberChange
got kept place = get_or kept place None

-- ---- by changes

-- how many are of the member
abbrev pub times : (member : ℕ) → List MemberChange → ℕ
times member [] = 0
times member (c ∷ undos) = if c.member == member then times member undos + 1 else times member undos

-- each record is changed by one commit cycle alone
abbrev pub are_alone : List MemberChange → Bool
are_alone [] = true
are_alone (c ∷ undos) = list_all (is_apart c.member c.change.place c.change.cycle) undos && are_alone undos

-- the last one of the commit cycle, and the others
abbrev pub last_of : (cycle : ℕ) → List MemberChange → Option MemberChange
last_of cycle [] = None
last_of cycle (c ∷ undos) = if is_of cycle c then Some c else last_of cycle undos

abbrev pub without_last : (cycle : ℕ) → List MemberChange → List MemberChange
without_last cycle [] = []
without_last cycle (c ∷ undos) = if is_of cycle c then undos else c ∷ without_last cycle undos

abbrev pub earlier : Option MemberChange → Option MemberChange → Option MemberChange
earlier None other = other
earlier (Some c) other = Some c

-- the first one of the record
abbrev pub first_change : ℕ × ℕ → List MemberChange → Option MemberChange
first_change r [] = None
first_change r (c ∷ undos) = earlier (first_change r undos) (if is_about r c then Some c else None)

-- ---- a commit cycle that was rolled back

-- the record is as before the first change of it by the commit cycle
abbrev pub is_back_in : (cycle : ℕ) → List MemberChange → (slots : ℕ → List Slot) → MemberChange → Bool
is_back_in cycle undos slots c = is_back (first_before cycle c.member c.change.place undos None) (slot_of (slots c.member) c.change.place)

abbrev pub is_restored_by : (cycle : ℕ) → List MemberChange → (slots : ℕ → List Slot) → MemberChange → Bool
is_restored_by cycle undos slots c = not (is_of cycle c) || is_back_in cycle undos slots c

abbrev pub passes : (MemberChange → Bool) → Option MemberChange → Bool
passes p None = true
passes p (Some c) = p c

-- the change at the place passes the test, or none is there
abbrev pub passes_at : (MemberChange → Bool) → List (Option MemberChange) → (place : ℕ) → Bool
passes_at p kept place = passes p (got kept place)

-- ---- what finds them

-- the places of each commit cycle's changes, the first change of each record, and how many changes each member has
abbrev pub AreFound : List (Option MemberChange) → (placed : ℕ → Option (List ℕ)) → (first : ℕ × ℕ → Option ℕ) → (counted : ℕ → Option ℕ) → Type 0
AreFound kept placed first counted =
    ((cycle : ℕ) → unwrap_or (placed cycle) [] ≡ places_by (is_of cycle) 0 kept)
    × ((r : ℕ × ℕ) → first r ≡ first_by (is_about r) 0 kept)
    × ((member : ℕ) → unwrap_or (counted member) 0 ≡ times member (live kept))
    × (are_alone (live kept) ≡ true)
