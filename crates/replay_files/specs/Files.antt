-- What is held of a file beside its name?
-- (Database Programming, "Physical file members".)
use Rattle.std.specs.Prelude.{ℕ, List}
use Rattle.std.specs.Borrow.{Bor}
use Rattle.std.specs.Map.Iter.{deref_pair}
use Rattle.entry_codec.specs.declared.kinds.FileKind.{FileKind}
use Rattle.journal_model.specs.Catalogue.{CatalogFile}

-- the sequence of its creation, 0 where a checkpoint has it, and the text of its description
pub record FileBody : Type 0 where
  pub created : ℕ
  pub kind : FileKind
  pub source : List ℕ

-- with its name
abbrev pub catalog_file : List ℕ × FileBody → CatalogFile
catalog_file entry = record { created = entry.1.created; kind = entry.1.kind; name = entry.0; source = entry.1.source }

-- the same of what is lent
abbrev pub file_shown : Bor (List ℕ) × Bor FileBody → CatalogFile
file_shown shown = catalog_file (deref_pair shown)
