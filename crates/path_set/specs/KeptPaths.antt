-- Which access paths does a library keep, and what stands in each? (Database Programming, "Sharing existing access paths".)
use Rattle.std.specs.Prelude.{◌≡◌, ◌≢◌, ℕ, ◌<◌, ◌≤◌, Option, Some, None, List, All, AllPairs, unwrap_or}
use Rattle.std.specs.Option.{option_map}
use Rattle.key_pages.specs.declared.entries.Entry.{Entry}
use Rattle.key_pages.specs.EntryList.{EntryList}
use Rattle.member_slots.specs.Members.{Numbered, NumberedMembers, item_at}
use Rattle.file_model.specs.declared.paths.PathSpec.{PathSpec}
use Rattle.access_path.specs.KeptEntries.{kept}
use Rattle.access_path.specs.PathBytes.{is_falling, members_of}
use Rattle.access_path.specs.Rebuilding.{member_slots}
use Rattle.path_entrants.specs.Formats.{keys_of}

-- a path, the number of files that have it, and its entries with their keys in bytes
pub record KeptPath : Type 0 where
  pub spec : PathSpec
  pub files : ℕ
  pub entries : List Entry

-- for how many inserts the path has memory, and how many entries each of its pages holds
pub record PathRoom : Type 0 where
  pub spare : ℕ
  pub pages : List ℕ

-- paths by ascending number
abbrev pub NumberedPaths : Type 0
NumberedPaths = List (Numbered KeptPath)

-- the paths, and the room of each
pub record KeptPaths : Type 0 where
  pub paths : NumberedPaths
  pub rooms : List (Numbered PathRoom)

-- how many inserts the path of this number has memory for
abbrev pub spare_of : ℕ → KeptPaths → ℕ
spare_of id kept = unwrap_or (option_map (λ room. room.spare) (item_at id kept.rooms)) 0

-- the numbers ascend, no two paths have one specification, and each is that of a file
pub record AreShared (paths : NumberedPaths) : Type 0 where
  pub ascend : AllPairs (λ former later. former.number < later.number) paths
  pub once : AllPairs (λ former later. former.item.spec ≢ later.item.spec) paths
  pub attached : All (λ path. 1 ≤ path.item.files) paths

-- the entries of a path over these members
abbrev pub entries_of : PathSpec → NumberedMembers → List Entry
entries_of spec members = kept (keys_of spec.formats) (is_falling spec.ties) (member_slots (members_of spec.formats) members)

-- each path has the entries that the members give it
abbrev pub AreOver : NumberedMembers → NumberedPaths → Type 0
AreOver members paths = All (λ path. path.item.entries ≡ entries_of path.item.spec members) paths

-- the pages of a path
abbrev pub pages_of : KeptPath → PathRoom → EntryList
pages_of path room = record { entries = path.entries; falling = is_falling path.spec.ties; spare = room.spare; pages = room.pages }

-- those of both, where both are there
abbrev pub pages_with : Option KeptPath → Option PathRoom → Option EntryList
pages_with None room = None
pages_with (Some path) None = None
pages_with (Some path) (Some room) = Some (pages_of path room)

-- the pages of the path of this number
abbrev pub pages_at : KeptPaths → (id : ℕ) → Option EntryList
pages_at kept id = pages_with (item_at id kept.paths) (item_at id kept.rooms)
