-- The members of a library by their numbers: which member a number names, and what each change makes of them.
-- (Database Programming, "Physical file members".)
use Rattle.std.specs.Prelude.{ℕ, ◌<◌, ◌==◌, nat_lt, if◌then◌else◌, List, [], ◌∷◌, filter, not, All, AllPairs, Option, Some, None, unwrap_or}
use Rattle.member_slots.specs.Member.{MemberState, IsMember, empty_member}

-- what belongs to the member with a number
pub record Numbered (A : Type 0) : Type 0 where
  pub number : ℕ
  pub item : A

-- what belongs to the number
abbrev pub item_at : {A : Type 0} → ℕ → List (Numbered A) → Option A
item_at number [] = None
item_at number (entry ∷ entries) = if entry.number == number then Some entry.item else item_at number entries

-- another item for the number; nothing changes where the number has none
abbrev pub with_item : {A : Type 0} → ℕ → A → List (Numbered A) → List (Numbered A)
with_item number item [] = []
with_item number item (entry ∷ entries) =
    if entry.number == number then record { number = number; item = item } ∷ entries else entry ∷ with_item number item entries

-- the item for the number, in place of the one that it has, or in the order of numbers
abbrev pub put_item : {A : Type 0} → ℕ → A → List (Numbered A) → List (Numbered A)
put_item number item [] = record { number = number; item = item } ∷ []
put_item number item (entry ∷ entries) =
    if nat_lt entry.number number
    then entry ∷ put_item number item entries
    else if entry.number == number
    then record { number = number; item = item } ∷ entries
    else record { number = number; item = item } ∷ entry ∷ entries

-- without what belongs to the number
abbrev pub without_item : {A : Type 0} → ℕ → List (Numbered A) → List (Numbered A)
without_item number = filter (λ entry. not (entry.number == number))

-- the members, by rising number
abbrev pub NumberedMembers : Type 0
NumberedMembers = List (Numbered MemberState)

-- the numbers rise, and each is a member
pub record AreMembers (members : NumberedMembers) : Type 0 where
  pub rising : AllPairs (λ former later. former.number < later.number) members
  pub each : All (λ entry. IsMember entry.item) members

-- the member with the number
abbrev pub member_at : ℕ → NumberedMembers → Option MemberState
member_at number members = item_at number members

-- the member with the number; one without slots where there is none
abbrev pub member_of : ℕ → NumberedMembers → MemberState
member_of number members = unwrap_or (member_at number members) (empty_member 0)

-- another state of the member with the number; nothing changes where there is none
abbrev pub with_member : ℕ → MemberState → NumberedMembers → NumberedMembers
with_member number member members = with_item number member members

-- the member with the number, in place of one that is there
abbrev pub put_member : ℕ → MemberState → NumberedMembers → NumberedMembers
put_member number member members = put_item number member members

-- without the member with the number
abbrev pub without_member : ℕ → NumberedMembers → NumberedMembers
without_member number members = without_item number members

-- the members, with the spare slots of each, and how many members more there is room for
pub record RoomyMembers : Type 0 where
  pub members : NumberedMembers
  pub spares : List (Numbered ℕ)
  pub room : ℕ

-- the room of the member with the number
abbrev pub spare_at : ℕ → RoomyMembers → ℕ
spare_at number value = unwrap_or (item_at number value.spares) 0
