-- What is a file by its data description, and over which members does a logical file stand? (DDS for Physical and Logical Files, "PFILE", "JFILE".)
use Rattle.std.specs.Prelude.{ℕ, List, [], ◌∷◌, map}
use Rattle.dds_logical.below.record_fmt.specs.declared.formats.Field.{Field}
use Rattle.dds_logical.below.dds_physical.specs.declared.physical_files.PhysicalSpec.{PhysicalSpec}
use Rattle.dds_logical.specs.declared.views.LogicalSpec.{LogicalSpec}
use Rattle.dds_logical.specs.declared.views.LogicalSpec.TheVariants.{Simple, Multi, Join}

-- a physical file, or a logical file over such
pub data FileSpec : Type 0 where
  PhysicalFile : PhysicalSpec → FileSpec
  LogicalFile : LogicalSpec → FileSpec

-- what a logical file needs of a base file: the number of its member, and the fields of its records
pub record Base : Type 0 where
  pub member : ℕ
  pub fields : List Field

-- the base files by their names
abbrev pub Bases : Type 0
Bases = List ℕ → Base

-- their names in a logical file, in the order of the formats, or of JFILE
abbrev pub base_names : LogicalSpec → List (List ℕ)
base_names (Simple view) = view.base ∷ []
base_names (Multi views) = map (λ view. view.base) views
base_names (Join view) = view.primary ∷ map (λ joined. joined.file) view.secondaries

abbrev pub base_members : Bases → LogicalSpec → List ℕ
base_members bases spec = map (λ name. (bases name).member) (base_names spec)
