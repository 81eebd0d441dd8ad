-- Which entries does an open read? (Database Programming, "Keyed sequence access path" and "Arrival sequence access path".)
use Rattle.std.specs.Prelude.{◌≡◌, ℕ, ◌≤◌, All, nat_lt, nat_le, Bool, false, List, [], map, Option, Some, None}
use Rattle.std.specs.declared.cmp.Ordering.TheVariants.{Less}
use Rattle.key_pages.specs.declared.entries.Entry.{Entry}
use Rattle.key_pages.specs.EntryList.{EntryList}
use Rattle.member_slots.specs.declared.member.TheConstants.{MOST_SLOTS}
use Rattle.member_slots.specs.Member.{MemberState, records}
use Rattle.file_cursor.specs.declared.places.Order.{Order}
use Rattle.file_cursor.specs.declared.places.Order.TheVariants.{Arrival, Path}
use Rattle.file_cursor.specs.declared.spot.Gap.{Gap}
use Rattle.file_cursor.specs.Finding.{side_of, is_before, is_after}
use Rattle.file_cursor.specs.CursorPosition.{CursorPosition, Start, End, On, Before, Past, ByKey, ByNumber}

-- the entry of a record in arrival order, which has no key
abbrev pub numbered : (rrn : ℕ) → Entry
numbered rrn = record { key = []; format = 0; rrn = rrn }

-- the numbers of the records of a member
abbrev pub numbers : MemberState → List ℕ
numbers member = map (λ pair. pair.0) (records member)

-- a member in arrival order
abbrev pub arrival_entries : MemberState → List Entry
arrival_entries member = map numbered (numbers member)

abbrev pub entries_in : Order → List Entry
entries_in (Arrival member) = arrival_entries member.now.state
entries_in (Path path) = path.now.entries

-- whether equal keys go by falling relative record number
abbrev pub falls : Order → Bool
falls (Arrival member) = false
falls (Path path) = path.now.falling

-- entries that stand by their numbers: those of one format without keys, of a member
pub record AreNumbered (list : EntryList) : Type 0 where
  pub rising : list.falling ≡ false
  pub entries : All (λ entry. entry ≡ numbered entry.rrn) list.entries
  pub few : All (λ entry. entry.rrn ≤ MOST_SLOTS) list.entries

-- a position by number is one only among entries that stand by their numbers
abbrev pub SuitsPath : EntryList → CursorPosition → Type 0
SuitsPath list Start = Unit {0}
SuitsPath list End = Unit {0}
SuitsPath list (On entry) = Unit {0}
SuitsPath list (Before (ByKey part)) = Unit {0}
SuitsPath list (Before (ByNumber n)) = AreNumbered list
SuitsPath list (Past (ByKey part)) = Unit {0}
SuitsPath list (Past (ByNumber n)) = AreNumbered list

-- a position that isn't set by a number
abbrev pub IsByKey : CursorPosition → Type 0
IsByKey Start = Unit {0}
IsByKey End = Unit {0}
IsByKey (On entry) = Unit {0}
IsByKey (Before (ByKey part)) = Unit {0}
IsByKey (Before (ByNumber n)) = ⊥
IsByKey (Past (ByKey part)) = Unit {0}
IsByKey (Past (ByNumber n)) = ⊥

-- a position that can be read from in an order
abbrev pub Suits : Order → CursorPosition → Type 0
Suits (Arrival member) position = Unit {0}
Suits (Path path) position = SuitsPath path.now position

-- an order in which records stand by their numbers
abbrev pub IsByNumber : Order → Type 0
IsByNumber (Arrival member) = Unit {0}
IsByNumber (Path path) = AreNumbered path.now

-- which numbers are before a position, and which are after it
pub record IsGap (position : CursorPosition) (gap : Gap) : Type 0 where
  pub before : (n : ℕ) → is_before false position (numbered n) ≡ nat_lt n gap.until
  pub after : (n : ℕ) → is_after false position (numbered n) ≡ nat_le gap.from n

-- the gap, or none where all numbers are before the position
abbrev pub ByNumbers : CursorPosition → Option Gap → Type 0
ByNumbers position None = (n : ℕ) → side_of false position (numbered n) ≡ Less
ByNumbers position (Some gap) = IsGap position gap
