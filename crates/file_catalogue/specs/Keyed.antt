-- Files of which each physical one has a key by some of its fields, which lie one behind another. (DDS for Physical and Logical Files, key field
-- level.)
use Rattle.std.specs.Prelude.{◌≡◌, ℕ, Some, List}
use Rattle.std.specs.List.{AllByRecursion}
use Rattle.dds_physical.specs.declared.physical_files.PhysicalSpec.{PhysicalSpec}
use Rattle.logical_model.specs.Bases.{FileSpec, PhysicalFile, LogicalFile}
use Rattle.physical_paths.specs.KeyedFiles.{IsKeyed}
use Rattle.library_model.specs.Named.{Named, named}
use Rattle.lawful_states.specs.State.{FileState}

abbrev pub HasOwnKey : FileSpec → Type 0
HasOwnKey (PhysicalFile spec) = IsKeyed spec
HasOwnKey (LogicalFile spec) = Unit {0}

abbrev pub HaveOwnKeys : Named FileState → Type 0
HaveOwnKeys files = AllByRecursion (λ entry. HasOwnKey entry.1.spec) files

-- whatever physical file this is, its key is
abbrev pub IsKeyedFile : FileSpec → Type 0
IsKeyedFile file = (spec : PhysicalSpec) → file ≡ PhysicalFile spec → IsKeyed spec

-- the key of each file that a name finds is
abbrev pub AllAreKeyed : Named FileState → Type 0
AllAreKeyed files = (name : List ℕ) (file : FileState) (spec : PhysicalSpec) → named name files ≡ Some file → file.spec ≡ PhysicalFile spec → IsKeyed spec
