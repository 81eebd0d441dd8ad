-- Over which members do the logical files of a library stand, and which access paths do its files keep?
-- (Database Programming, "Describing access paths for database files". That a logical file always stands over the member that has its base file's name is our own.)
use Rattle.std.specs.Prelude.{ℕ, nat_lt, Option, Some, None, List, [], map, filter, flat_map, length, if◌then◌else◌}
use Rattle.std.specs.Option.{option_map_or}
use Rattle.dds_physical.specs.declared.physical_files.PhysicalSpec.{PhysicalSpec}
use Rattle.file_model.specs.declared.paths.PathSpec.{PathSpec}
use Rattle.file_model.specs.FilePaths.{physical_path}
use Rattle.logical_model.specs.Bases.{Base, Bases, FileSpec, PhysicalFile, LogicalFile}
use Rattle.logical_model.specs.FilePaths.{is_over, logical_paths}
use Rattle.library_model.specs.Named.{Named, named}
use Rattle.library_steps.specs.State.{Memory, MemberStatus, FileState, fields_of, physical_among}

-- a physical file as a base: its member of its own name. No file goes while a logical file is over it, so that a missing one counts for nothing
abbrev pub base_in : List ℕ → Option FileState → Base
base_in name None = record { member = 0; fields = [] }
base_in name (Some file) = record { member = option_map_or (λ status. status.number) (named name file.members) 0; fields = fields_of file }

abbrev pub bases_in : Named FileState → Bases
bases_in files name = base_in name (physical_among name files)

abbrev pub bases_of : Memory → Bases
bases_of m = bases_in m.files

-- a physical file with a key has a path over each member
abbrev pub physical_paths : PhysicalSpec → Named MemberStatus → List PathSpec
physical_paths spec members = if nat_lt 0 (length spec.keys.parts) then map (λ entry. physical_path entry.1.number spec.format.fields spec.keys) members else []

abbrev pub paths_by : Memory → Named MemberStatus → FileSpec → List PathSpec
paths_by m members (PhysicalFile spec) = physical_paths spec members
paths_by m members (LogicalFile spec) = logical_paths (bases_of m) spec

abbrev pub paths_of : Memory → FileState → List PathSpec
paths_of m file = paths_by m file.members file.spec

-- the paths over a member, by the order in which their files were made
abbrev pub paths_over : ℕ → Memory → List PathSpec
paths_over member m = flat_map (λ entry. filter (is_over member) (paths_of m entry.1)) m.files
