-- How are paths kept: in one list by ascending number. (Our own.)
use Rattle.std.specs.Prelude.{◌≡◌, ◌≢◌, ℕ, ◌<◌, ◌≤◌, List, length, map, All, AllPairs, HoldsAt, slice_index_or}
use Rattle.std.specs.Option.{option_copied}
use Rattle.access_path.specs.PathBytes.{is_falling}
use Rattle.member_slots.specs.Members.{Numbered}
use Rattle.path_set.specs.declared.kept.Kept.{Kept}
use Rattle.path_set.specs.declared.kept.TheConstants.{MOST_PATHS}
use Rattle.path_set.specs.declared.kept.Asked.{Asked}
use Rattle.path_set.specs.KeptPaths.{KeptPath, PathRoom, KeptPaths}
use Rattle.path_set.specs.RecordChanges.{RecordChange}

abbrev pub path_of : Kept → KeptPath
path_of kept = record { spec = kept.by; files = kept.files; entries = kept.path.entries }

abbrev pub room_of : Kept → PathRoom
room_of kept = record { spare = kept.path.spare; pages = kept.path.pages }

-- something of a path, with its number
abbrev pub numbered : {A : Type 0} → (Kept → A) → Kept → Numbered A
numbered part kept = record { number = kept.id; item = part kept }

abbrev pub paths_of : List Kept → KeptPaths
paths_of kept = record { paths = map (numbered path_of) kept; rooms = map (numbered room_of) kept }

-- its ties go as its specification says, and a file has it
pub record IsKept (kept : Kept) : Type 0 where
  pub falling : kept.path.falling ≡ is_falling kept.by.ties
  pub attached : 1 ≤ kept.files

-- the numbers ascend, no two have one specification, and there are not too many
pub record AreKept (kept : List Kept) : Type 0 where
  pub ascend : AllPairs (λ former later. former.id < later.id) kept
  pub once : AllPairs (λ former later. former.by ≢ later.by) kept
  pub each : All IsKept kept
  pub few : length kept ≤ MOST_PATHS

-- the path of the number is at the place
pub record IsPlace (kept : List Kept) (id place : ℕ) : Type 0 where
  pub in_range : place < length kept
  pub here : HoldsAt (λ path. path.id ≡ id) kept place
  pub before : (k : ℕ) (d : Kept) → k < place → (slice_index_or kept k d).id < id
  pub after : (k : ℕ) (d : Kept) → place < k → k < length kept → id < (slice_index_or kept k d).id

-- no path has the number, and one would go to the place
pub record IsGap (kept : List Kept) (id place : ℕ) : Type 0 where
  pub in_range : place ≤ length kept
  pub before : (k : ℕ) (d : Kept) → k < place → (slice_index_or kept k d).id < id
  pub after : (k : ℕ) (d : Kept) → place ≤ k → k < length kept → id < (slice_index_or kept k d).id

-- the first place whose path has another number
pub record IsFirstFree (kept : List Kept) (place : ℕ) : Type 0 where
  pub in_range : place ≤ length kept
  pub before : (k : ℕ) (d : Kept) → k < place → (slice_index_or kept k d).id ≡ k
  pub here : place < length kept → HoldsAt (λ path. path.id ≢ place) kept place

-- the same path, with no less room
pub record HasMoreRoom (old new : Kept) : Type 0 where
  pub id : new.id ≡ old.id
  pub by : new.by ≡ old.by
  pub files : new.files ≡ old.files
  pub entries : new.path.entries ≡ old.path.entries
  pub falling : new.path.falling ≡ old.path.falling
  pub spare : old.path.spare ≤ new.path.spare

-- with this number of files
abbrev pub with_files : Kept → ℕ → Kept
with_files kept files = record { id = kept.id; by = kept.by; files = files; path = kept.path }

-- the change that is asked for
abbrev pub change_of : Asked → RecordChange
change_of asked = record { member = asked.member; rrn = asked.rrn; old = option_copied asked.old; new = option_copied asked.new }
