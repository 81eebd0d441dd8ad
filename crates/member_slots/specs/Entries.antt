-- How the members are kept: in one list by rising number, each with its room.
use Rattle.std.specs.Prelude.{ℕ, ◌<◌, ◌≤◌, ◌≡◌, List, length, map, All, AllPairs, HoldsAt, slice_index_or}
use Rattle.member_slots.specs.Member.{MemberState, IsMember}
use Rattle.member_slots.specs.Members.{Numbered, RoomyMembers}
use Rattle.member_slots.specs.declared.members.Entry.{Entry}

-- something of an entry, with its number
abbrev pub numbered : {A : Type 0} → (Entry → A) → Entry → Numbered A
numbered part entry = record { number = entry.number; item = part entry }

abbrev pub state_of : Entry → MemberState
state_of entry = entry.member.state

abbrev pub spare_of : Entry → ℕ
spare_of entry = entry.member.spare

-- what the entries stand for, with room for so many more
abbrev pub members_of : List Entry → ℕ → RoomyMembers
members_of entries room = record { members = map (numbered state_of) entries; spares = map (numbered spare_of) entries; room = room }

-- the numbers rise, and each is a member
pub record AreEntries (entries : List Entry) : Type 0 where
  pub rising : AllPairs (λ former later. former.number < later.number) entries
  pub each : All (λ entry. IsMember entry.member.state) entries

-- the number's entry is at the place
pub record IsPlace (entries : List Entry) (number place : ℕ) : Type 0 where
  pub in_range : place < length entries
  pub here : HoldsAt (λ entry. entry.number ≡ number) entries place
  pub before : (k : ℕ) (d : Entry) → k < place → (slice_index_or entries k d).number < number
  pub behind : (k : ℕ) (d : Entry) → place < k → k < length entries → number < (slice_index_or entries k d).number

-- the number has no entry, and its entry would go to the place
pub record IsGap (entries : List Entry) (number place : ℕ) : Type 0 where
  pub in_range : place ≤ length entries
  pub before : (k : ℕ) (d : Entry) → k < place → (slice_index_or entries k d).number < number
  pub behind : (k : ℕ) (d : Entry) → place ≤ k → k < length entries → number < (slice_index_or entries k d).number
