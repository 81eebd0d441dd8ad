-- Which access paths do the files of a library have, and which are kept for them?
-- (Database Programming, "Describing access paths for database files" and "Sharing existing access paths".)
use Rattle.std.specs.Prelude.{◌≡◌, ℕ, IsSome, List, All, Any, length, filter, flat_map}
use Rattle.std.specs.List.{AllByRecursion}
use Rattle.member_slots.specs.Members.{NumberedMembers}
use Rattle.file_model.specs.declared.paths.PathSpec.{PathSpec}
use Rattle.logical_model.specs.Bases.{FileSpec, PhysicalFile, LogicalFile, base_names}
use Rattle.logical_model.specs.FilePaths.{logical_paths}
use Rattle.logical_model.specs.SamePaths.{same_path}
use Rattle.path_set.specs.KeptPaths.{NumberedPaths, AreOver}
use Rattle.library_model.specs.Named.{Named, named}
use Rattle.library_steps.specs.State.{FileState, MemberStatus, physical_among}
use Rattle.library_steps.specs.LogicalFiles.{bases_in, physical_paths}

-- ---- the paths of files

-- the paths of a file beside all these: of a physical file with a key one over each member; those of a logical file
abbrev pub paths_by : (all : Named FileState) → Named MemberStatus → FileSpec → List PathSpec
paths_by all members (PhysicalFile spec) = physical_paths spec members
paths_by all members (LogicalFile spec) = logical_paths (bases_in all) spec

abbrev pub paths_among : (all files : Named FileState) → List PathSpec
paths_among all files = flat_map (λ entry. paths_by all entry.1.members entry.1.spec) files

-- those of all files, in the order of the files
abbrev pub all_paths : Named FileState → List PathSpec
all_paths files = paths_among files files

-- how many of these are this one
abbrev pub count_in : PathSpec → List PathSpec → ℕ
count_in spec paths = length (filter (same_path spec) paths)

-- ---- the paths that are kept

-- each of these paths is kept, each kept path counts how many of these it is, and has the entries that the members give it
pub record AreKeptFor (specs : List PathSpec) (members : NumberedMembers) (kept : NumberedPaths) : Type 0 where
  pub over : AreOver members kept
  pub there : AllByRecursion (λ spec. Any (λ path. path.item.spec ≡ spec) kept) specs
  pub counted : All (λ path. path.item.files ≡ count_in path.item.spec specs) kept

-- ---- files that stand

-- the files over which a logical file stands are there; a physical file has the member of its own name
abbrev pub StandsBy : (all : Named FileState) → List ℕ → Named MemberStatus → FileSpec → Type 0
StandsBy all name members (PhysicalFile spec) = IsSome (named name members)
StandsBy all name members (LogicalFile spec) = AllByRecursion (λ base. IsSome (physical_among base all)) (base_names spec)

abbrev pub AllStand : Named FileState → Type 0
AllStand files = AllByRecursion (λ entry. StandsBy files entry.0 entry.1.members entry.1.spec) files
