-- What logical files store lies in whole fields of their base files' records, so that what is given through them makes records of these.
-- (DDS for Physical and Logical Files, "CONCAT", "SST".)
use Rattle.std.specs.Prelude.{◌≡◌, ℕ, Some, IsSome, List, slice_get}
use Rattle.logical_laws.below.dds_logical.specs.declared.views.LogicalSpec.{LogicalSpec}
use Rattle.library_model.specs.Named.{Named, named}
use Rattle.logical_laws.specs.Bases.{Bases, FileSpec, PhysicalFile, LogicalFile, base_names}
use Rattle.logical_laws.specs.Mapped.{IsSpecMapped, HoldDefaults}
use Rattle.lawful_states.specs.State.{FileState, fields_of}
use Rattle.lawful_states.specs.LogicalFiles.{bases_in}

-- a logical file has a format, so that an open has a member before any read
pub record IsView (bases : Bases) (spec : LogicalSpec) : Type 0 where
  pub some : IsSome (slice_get (base_names spec) 0)
  pub mapped : IsSpecMapped bases spec

abbrev pub IsMapped : Named FileState → FileSpec → Type 0
IsMapped files (PhysicalFile spec) = Unit {0}
IsMapped files (LogicalFile spec) = IsView (bases_in files) spec

abbrev pub AreMapped : Named FileState → Type 0
AreMapped files = (name : List ℕ) (file : FileState) → named name files ≡ Some file → IsMapped files file.spec

-- the default values of a physical file's fields may stand in them
abbrev pub HaveDefaults : Named FileState → Type 0
HaveDefaults files = (name : List ℕ) (file : FileState) → named name files ≡ Some file → HoldDefaults (fields_of file)
