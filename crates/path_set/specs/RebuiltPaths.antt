-- What is a path that is made anew, and what becomes of the kept paths when it takes the place of the old one? (Our own.)
use Rattle.std.specs.Prelude.{◌≡◌, ℕ, ◌≤◌, ◌*◌, true, List, [], ◌∷◌, ◌++◌, length, map, All, Option, Some, None, IsSome, IfSome}
use Rattle.std.specs.List.{AllZip}
use Rattle.key_pages.specs.declared.entries.Entry.{Entry}
use Rattle.key_pages.specs.EntryList.{EntryList}
use Rattle.member_slots.specs.Members.{Numbered, NumberedMembers, item_at}
use Rattle.access_path.specs.PathBytes.{is_falling}
use Rattle.path_set.specs.KeptPaths.{KeptPath, PathRoom, KeptPaths, NumberedPaths, entries_of}
use Rattle.path_set.specs.Sharing.{CanBeKept}
use Rattle.path_set.specs.MemberSteps.{is_over}

-- each path over the member can be made of these members
abbrev pub CanBeRebuilt : (member : ℕ) → NumberedMembers → NumberedPaths → Type 0
CanBeRebuilt member members paths = All (λ path. is_over member path.item.spec ≡ true → CanBeKept path.item.spec members) paths

-- the pages have what the members give the path, and memory for the moves of so many changes
pub record IsRebuilt (members : NumberedMembers) (held : ℕ) (path : Numbered KeptPath) (new : Numbered EntryList) : Type 0 where
  pub number : new.number ≡ path.number
  pub entries : new.item.entries ≡ entries_of path.item.spec members
  pub falling : new.item.falling ≡ is_falling path.item.spec.ties
  pub room : held * length path.item.spec.formats ≤ new.item.spare

-- each of these paths has been made anew, in their order
abbrev pub AreRebuilt : NumberedMembers → (held : ℕ) → NumberedPaths → List (Numbered EntryList) → Type 0
AreRebuilt members held paths rebuilt = AllZip (IsRebuilt members held) paths rebuilt

-- ---- in the places of the old ones

-- each path has its room
abbrev pub HaveRooms : KeptPaths → Type 0
HaveRooms kept = All (λ path. IsSome (item_at path.number kept.rooms)) kept.paths

-- where a path has the number of one made anew, its equal keys go the same way
abbrev pub HaveTies : List (Numbered EntryList) → NumberedPaths → Type 0
HaveTies rebuilt paths = All (λ new. IfSome (item_at new.number paths) (λ path. new.item.falling ≡ is_falling path.spec.ties)) rebuilt

abbrev pub entries_or : Option EntryList → List Entry → List Entry
entries_or None entries = entries
entries_or (Some new) entries = new.entries

abbrev pub room_or : Option EntryList → PathRoom → PathRoom
room_or None room = room
room_or (Some new) room = record { spare = new.spare; pages = new.pages }

-- the path with the entries that were made for its number, where there are any
abbrev pub path_with : List (Numbered EntryList) → Numbered KeptPath → Numbered KeptPath
path_with rebuilt path = record {
  number = path.number;
  item = record { spec = path.item.spec; files = path.item.files; entries = entries_or (item_at path.number rebuilt) path.item.entries };
}

abbrev pub room_with : List (Numbered EntryList) → Numbered PathRoom → Numbered PathRoom
room_with rebuilt room = record { number = room.number; item = room_or (item_at room.number rebuilt) room.item }

-- all paths and their room
abbrev pub kept_with : List (Numbered EntryList) → KeptPaths → KeptPaths
kept_with rebuilt kept = record { paths = map (path_with rebuilt) kept.paths; rooms = map (room_with rebuilt) kept.rooms }

-- ---- one after another

-- a path more has been made anew
abbrev pub IsAdded : NumberedMembers → (held : ℕ) → Numbered KeptPath → (old new : List (Numbered EntryList)) → Type 0
IsAdded members held path old new = (item : Numbered EntryList) × (new ≡ old ++ item ∷ []) × IsRebuilt members held path item
