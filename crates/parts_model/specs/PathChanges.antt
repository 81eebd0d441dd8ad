-- What becomes of the kept paths when a member comes that has one, when a logical file comes, and when the members of a file go? (Our own.)
use Rattle.std.specs.Prelude.{◌≡◌, ℕ, ◌≤◌, ◌⊎◌, nat_lt, false, Any, Contains, Option, Some, None, List, [], ◌∷◌, ◌++◌, length, if◌then◌else◌}
use Rattle.std.specs.List.{AllByRecursion, AllZip, find}
use Rattle.std.specs.Option.{option_map}
use Rattle.member_slots.specs.Members.{NumberedMembers}
use Rattle.library_steps.below.dds_physical.specs.declared.physical_files.PhysicalSpec.{PhysicalSpec}
use Rattle.file_model.specs.declared.paths.PathSpec.{PathSpec}
use Rattle.file_model.specs.FilePaths.{physical_path}
use Rattle.library_steps.specs.Bases.{FileSpec, PhysicalFile, LogicalFile}
use Rattle.path_set.specs.declared.moves.PathMove.{PathMove}
use Rattle.path_set.specs.KeptPaths.{AreShared, KeptPaths, NumberedPaths, spare_of}
use Rattle.path_set.specs.MemberSteps.{is_over}
use Rattle.path_set.specs.Sharing.{IsShared, IsPut, detached}
use Rattle.library_steps.specs.FilePaths.{logical_paths}
use Rattle.library_paths.specs.AllPaths.{AreKeptFor}
use Rattle.job_table.specs.Opens.{OpenOrder}
use Rattle.library_model.specs.Named.{Named, named}
use Rattle.library_steps.specs.LogicalFiles.{bases_in}
use Rattle.library_steps.specs.State.{FileState, JobState, MemberStatus}
use Rattle.library_steps.specs.Uses.{changes_in}
use Rattle.parts_model.specs.Indexed.{IsIndexedFor}
use Rattle.parts_model.specs.Parts.{LibraryParts}
use Rattle.parts_model.specs.Reads.{IsNumberOf}

-- ---- a path more

-- the path over a member of a physical file, where the file has a key
abbrev pub member_path : PhysicalSpec → ℕ → Option PathSpec
member_path spec number = if nat_lt 0 (length spec.keys.parts) then Some (physical_path number spec.format.fields spec.keys) else None

-- a file has the path of this specification, over these members
pub record IsAttached (spec : PathSpec) (members : NumberedMembers) (old new : KeptPaths) : Type 0 where
  pub path : (id : ℕ) × (IsShared spec id old.paths new.paths ⊎ IsPut spec members id old.paths new.paths)
  pub spares : (id : ℕ) → spare_of id old ≤ spare_of id new

-- the path, where there is one
abbrev pub AttachesPath : Option PathSpec → NumberedMembers → (old new : KeptPaths) → Type 0
AttachesPath None members old new = new ≡ old
AttachesPath (Some spec) members old new = IsAttached spec members old new

-- ---- paths fewer

-- the number of the first path over the member
abbrev pub first_over : (number : ℕ) → NumberedPaths → Option ℕ
first_over number paths = option_map (λ path. path.number) (find (λ path. is_over number path.item.spec) paths)

-- the path of this number has one file fewer, where one is given
abbrev pub detached_from : Option ℕ → NumberedPaths → NumberedPaths
detached_from None paths = paths
detached_from (Some id) paths = detached id paths

-- the first path over the member has one file fewer, where there is one
abbrev pub without_path_over : (number : ℕ) → NumberedPaths → NumberedPaths
without_path_over number paths = detached_from (first_over number paths) paths

-- so for each of the members
abbrev pub without_paths : Named MemberStatus → NumberedPaths → NumberedPaths
without_paths [] paths = paths
without_paths (entry ∷ gone) paths = without_paths gone (without_path_over entry.1.number paths)

-- so have the paths of these numbers
abbrev pub detached_each : List (Option ℕ) → NumberedPaths → NumberedPaths
detached_each [] paths = paths
detached_each (id ∷ ids) paths = detached_each ids (detached_from id paths)

-- the numbers of some paths
abbrev pub AreNumbers : NumberedPaths → List PathSpec → List (Option ℕ) → Type 0
AreNumbers paths specs ids = AllZip (λ spec id. IsNumberOf spec id paths) specs ids

-- the numbers of a logical file's paths; none of another file
abbrev pub ArePathsOf : Named FileState → NumberedPaths → FileSpec → List (Option ℕ) → Type 0
ArePathsOf files paths (PhysicalFile spec) ids = ids ≡ []
ArePathsOf files paths (LogicalFile spec) ids = AreNumbers paths (logical_paths (bases_in files) spec) ids

abbrev pub ArePathsOfNamed : Named FileState → NumberedPaths → Option FileState → List (Option ℕ) → Type 0
ArePathsOfNamed files paths None ids = ids ≡ []
ArePathsOfNamed files paths (Some file) ids = ArePathsOf files paths file.spec ids

-- of the file of this name
abbrev pub ArePathsOfView : LibraryParts → (name : List ℕ) → List (Option ℕ) → Type 0
ArePathsOfView parts name ids = ArePathsOfNamed parts.state.files parts.room.paths.paths (named name parts.state.files) ids

-- ---- several paths more

-- no open commit cycle has changed a member that the path is over
abbrev pub HasNoChange : List JobState → PathSpec → Type 0
HasNoChange jobs spec = AllByRecursion (λ job. AllByRecursion (λ undo. is_over undo.member spec ≡ false) (changes_in job.cycle)) jobs

-- a file has the paths of these specifications too, whatever else is kept
pub record Attaches (specs : List PathSpec) (members : NumberedMembers) (old new : KeptPaths) : Type 0 where
  pub shared : AreShared old.paths → AreShared new.paths
  pub indexed : AreShared old.paths → (all : List PathSpec) (files : Named FileState) (jobs : List JobState) (orders : List (Named OpenOrder)) (moves : List (List (List PathMove)))
      → AllByRecursion (HasNoChange jobs) specs → IsIndexedFor all files members jobs orders moves old → IsIndexedFor (specs ++ all) files members jobs orders moves new

-- what is kept for some paths stays so, and under its numbers
pub record StaysKept (all : List PathSpec) (members : NumberedMembers) (old new : NumberedPaths) : Type 0 where
  pub shared : AreShared new
  pub kept : AreKeptFor all members new
  pub numbers : (id : ℕ) (spec : PathSpec) → Contains all spec → Any (λ path. (path.number ≡ id) × (path.item.spec ≡ spec)) old → Any (λ path. (path.number ≡ id) × (path.item.spec ≡ spec)) new

-- it has none of them, where one couldn't be kept
pub record AttachesNone (specs : List PathSpec) (members : NumberedMembers) (old new : KeptPaths) : Type 0 where
  pub stays : AreShared old.paths → (all : List PathSpec) → AreKeptFor all members old.paths → StaysKept all members old.paths new.paths
  pub indexed : AreShared old.paths → (all : List PathSpec) (files : Named FileState) (jobs : List JobState) (orders : List (Named OpenOrder)) (moves : List (List (List PathMove)))
      → AllByRecursion (HasNoChange jobs) specs → IsIndexedFor all files members jobs orders moves old → IsIndexedFor all files members jobs orders moves new
