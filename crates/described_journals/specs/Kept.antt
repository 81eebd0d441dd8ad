-- What is known of a source that was read once? What it describes wherever the files that it names are there as they were. (Our own.)
use Rattle.std.specs.Prelude.{◌≡◌, ℕ, Bool, true, Option, Some, None, IfSome, List}
use Rattle.std.specs.List.{AllByRecursion, find, list_any}
use Rattle.std.specs.Str.{bytes_eq}
use Rattle.entry_codec.specs.declared.kinds.FileKind.TheVariants.{Physical}
use Rattle.dds_physical.specs.declared.physical_files.PhysicalSpec.{PhysicalSpec}
use Rattle.logical_model.specs.Bases.{PhysicalFile}
use Rattle.journal_model.specs.Catalogue.{CatalogFile, is_named}
use Rattle.library_model.specs.Named.{Named}
use Rattle.library_steps.specs.State.{FileState}
use Rattle.named_bases.specs.Sources.{described_files, spec_beside}
use Rattle.described_journals.specs.declared.settled.NamedFile.{NamedFile}
use Rattle.described_journals.specs.declared.settled.ReadDescription.{ReadDescription}

-- ---- files that a source names

-- this describes the same beside any files
pub record IsAlone (source : List ℕ) : Type 0 where
  pub spec : PhysicalSpec
  pub beside : (files : Named FileState) → spec_beside files Physical source ≡ Some (PhysicalFile spec)

-- among the files the first one of its name is physical, with this source
pub record IsThere (files : List CatalogFile) (other : NamedFile) : Type 0 where
  pub file : CatalogFile
  pub first : find (is_named other.name) files ≡ Some file
  pub physical : file.kind ≡ Physical
  pub same : file.source ≡ other.source

-- it is there, and describes the same wherever it is
pub record IsSettled (files : List CatalogFile) (other : NamedFile) : Type 0 where
  pub there : IsThere files other
  pub alone : IsAlone other.source

-- one of them has this name
abbrev pub has_named : (name : List ℕ) → List NamedFile → Bool
has_named name others = list_any (λ (other : NamedFile). bytes_eq name other.name) others

-- of these names, each is now one of a settled file
pub record AreSettled (files : List CatalogFile) (names : List (List ℕ)) (before after : List NamedFile) : Type 0 where
  pub settled : AllByRecursion (IsSettled files) before → AllByRecursion (IsSettled files) after
  pub each : (name : List ℕ) → list_any (bytes_eq name) names ≡ true → has_named name after ≡ true
  pub kept : (name : List ℕ) → has_named name before ≡ true → has_named name after ≡ true

-- ---- what the source describes

-- wherever those files are there
pub record Describes (source : List ℕ) (others : List NamedFile) (spec : PhysicalSpec) : Type 0 where
  pub beside : (files : List CatalogFile) → AllByRecursion (IsThere files) others → spec_beside (described_files files) Physical source ≡ Some (PhysicalFile spec)

-- what was read of a source beside these files
abbrev pub IsRead : (files : List CatalogFile) (source : List ℕ) → Option ReadDescription → Type 0
IsRead files source None = spec_beside (described_files files) Physical source ≡ None
IsRead files source (Some read) =
    (spec_beside (described_files files) Physical source ≡ Some (PhysicalFile read.spec)) × IfSome read.others (λ others. Describes source others.items read.spec)
