-- What is left of a journal's files? (Our own.)
use Rattle.std.specs.Prelude.{◌≡◌, ℕ, Bool, Option, Some, List, if◌then◌else◌, codes}
use Rattle.std.specs.List.{AllByRecursion}
use Rattle.dds_physical.specs.declared.physical_files.PhysicalSpec.{PhysicalSpec}
use Rattle.dds_physical.specs.Keywords.{first_named}
use Rattle.dds_logical.specs.FormatLines.{FormatLines}
use Rattle.dds_logical.specs.Origins.{keyword_names}
use Rattle.lawful_states.specs.Physical.{IsPhysical}
use Rattle.journal_model.specs.Catalogue.{CatalogFile}
use Rattle.library_model.specs.Named.{Named, named}
use Rattle.lawful_states.specs.State.{FileState, fields_of}
use Rattle.restart_model.specs.Sources.{fields_beside}

-- ---- what is left of a physical file

-- a physical file of the journal is one of the library's, made from its source, and its records have the fields by which the journal judges them
pub record IsLeftAs (all : List CatalogFile) (files : Named FileState) (file : CatalogFile) : Type 0 where
  pub state : FileState
  pub there : named file.name files ≡ Some state
  pub source : state.source ≡ file.source
  pub physical : IsPhysical state.spec
  pub fields : fields_beside all file.source ≡ fields_of state

-- ---- the files that a logical file names

-- each physical file that PFILE or JFILE of the format names is the same for both
abbrev pub IsSameOver : (bases others : List ℕ → Option PhysicalSpec) → (is_join : Bool) → FormatLines → Type 0
IsSameOver bases others is_join f =
    AllByRecursion (λ name. others name ≡ bases name) (keyword_names (first_named (if is_join then codes "JFILE" else codes "PFILE") f.head.keywords))
