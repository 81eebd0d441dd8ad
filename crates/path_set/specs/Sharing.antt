-- What happens to the paths when a file gets its path, or gives it up? (Database Programming, "Sharing existing access
-- paths". That a new path gets the least free number is our own.)
use Rattle.std.specs.Prelude.{◌≡◌, ◌≢◌, ℕ, ◌+◌, ◌-◌, ◌<◌, ◌≤◌, nat_lt, length, All, Option, Some, None, IsSome, if◌then◌else◌}
use Rattle.member_slots.specs.Members.{NumberedMembers, item_at, with_item, put_item, without_item}
use Rattle.file_model.specs.declared.paths.PathSpec.{PathSpec}
use Rattle.access_path.specs.PathBytes.{members_of}
use Rattle.access_path.specs.Rebuilding.{member_slots, TakesAll}
use Rattle.path_entrants.specs.declared.entrant.TheConstants.{MOST_FORMATS}
use Rattle.path_entrants.specs.Formats.{CanBeAsked}
use Rattle.path_set.specs.KeptPaths.{KeptPath, NumberedPaths, entries_of}

-- its formats can be numbered, and each can be asked about the records of its member
pub record CanBeKept (spec : PathSpec) (members : NumberedMembers) : Type 0 where
  pub few : length spec.formats ≤ MOST_FORMATS
  pub asked : TakesAll (CanBeAsked spec.formats) 0 (member_slots (members_of spec.formats) members)

-- no kept path has the specification
abbrev pub IsNew : PathSpec → NumberedPaths → Type 0
IsNew spec paths = All (λ path. path.item.spec ≢ spec) paths

-- no kept path has the number, and each lesser one is a path's
pub record IsLeastFree (id : ℕ) (paths : NumberedPaths) : Type 0 where
  pub free : item_at id paths ≡ None
  pub least : (other : ℕ) → other < id → IsSome (item_at other paths)

-- one file more has the path
abbrev pub one_more : KeptPath → KeptPath
one_more path = record { spec = path.spec; files = path.files + 1; entries = path.entries }

abbrev pub one_fewer : KeptPath → KeptPath
one_fewer path = record { spec = path.spec; files = path.files - 1; entries = path.entries }

-- the path of this number has the specification, and one file more has it
pub record IsShared (spec : PathSpec) (id : ℕ) (old new : NumberedPaths) : Type 0 where
  pub path : KeptPath
  pub there : item_at id old ≡ Some path
  pub same : path.spec ≡ spec
  pub counted : new ≡ with_item id (one_more path) old

-- one file has the path, with the entries that the members give it
abbrev pub path_over : PathSpec → NumberedMembers → KeptPath
path_over spec members = record { spec = spec; files = 1; entries = entries_of spec members }

-- the path is a new one, under the least number
pub record IsPut (spec : PathSpec) (members : NumberedMembers) (id : ℕ) (old new : NumberedPaths) : Type 0 where
  pub absent : IsNew spec old
  pub number : IsLeastFree id old
  pub put : new ≡ put_item id (path_over spec members) old

-- one file fewer has the path, which goes with the last
abbrev pub given_up : (id : ℕ) → Option KeptPath → NumberedPaths → NumberedPaths
given_up id None paths = paths
given_up id (Some path) paths = if nat_lt 1 path.files then with_item id (one_fewer path) paths else without_item id paths

abbrev pub detached : (id : ℕ) → NumberedPaths → NumberedPaths
detached id paths = given_up id (item_at id paths) paths
