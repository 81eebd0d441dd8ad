-- Whose path is it? (Database Programming, "Describing access paths for database files".)
use Rattle.std.specs.Prelude.{◌≡◌, ℕ, nat_lt, true, Some, is_some, List, length, Contains}
use Rattle.library_steps.below.dds_physical.specs.declared.physical_files.PhysicalSpec.{PhysicalSpec}
use Rattle.file_model.specs.declared.paths.PathSpec.{PathSpec}
use Rattle.file_model.specs.FilePaths.{physical_path}
use Rattle.library_model.specs.Named.{Named, named}
use Rattle.library_steps.specs.SlotChange.{status_in}
use Rattle.library_steps.specs.State.{FileState, MemberStatus}
use Rattle.library_paths.specs.AllPaths.{paths_by}

-- one of the files has it
pub record IsOfFile (files : Named FileState) (spec : PathSpec) : Type 0 where
  pub name : List ℕ
  pub file : FileState
  pub at : named name files ≡ Some file
  pub among : Contains (paths_by files file.members file.spec) spec

-- it is the path over a member of a physical file with a key
pub record IsOfMember (spec : PhysicalSpec) (members : Named MemberStatus) (path : PathSpec) : Type 0 where
  pub number : ℕ
  pub keyed : nat_lt 0 (length spec.keys.parts) ≡ true
  pub has : is_some (status_in number members) ≡ true
  pub is : physical_path number spec.format.fields spec.keys ≡ path
