-- The keys of all physical files are by their fields, which lie one behind another. (DDS for Physical and Logical Files, key field level.)
use Rattle.std.specs.Prelude.{◌≡◌, ℕ, Some, List}
use Rattle.library_steps.below.dds_physical.specs.declared.physical_files.PhysicalSpec.{PhysicalSpec}
use Rattle.library_steps.specs.Bases.{FileSpec, PhysicalFile}
use Rattle.file_catalogue.specs.KeyedFiles.{IsKeyed}
use Rattle.library_model.specs.Named.{Named, named}
use Rattle.library_steps.specs.State.{FileState}

-- whatever physical file this is, its key is
abbrev pub IsKeyedFile : FileSpec → Type 0
IsKeyedFile file = (spec : PhysicalSpec) → file ≡ PhysicalFile spec → IsKeyed spec

abbrev pub AllAreKeyed : Named FileState → Type 0
AllAreKeyed files = (name : List ℕ) (file : FileState) (spec : PhysicalSpec) → named name files ≡ Some file → file.spec ≡ PhysicalFile spec → IsKeyed spec
