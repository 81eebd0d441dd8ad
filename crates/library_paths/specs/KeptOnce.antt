-- A path that is kept once among others, and paths whose entries alone are others. (Our own.)
use Rattle.std.specs.Prelude.{◌≡◌, ℕ, Some, List}
use Rattle.key_pages.specs.declared.entries.Entry.{Entry}
use Rattle.member_slots.specs.Members.{Numbered, item_at}
use Rattle.file_model.specs.declared.paths.PathSpec.{PathSpec}
use Rattle.path_set.specs.KeptPaths.{KeptPath, NumberedPaths}

-- the path of this specification is kept under one number
pub record IsKeptOnce (spec : PathSpec) (kept : NumberedPaths) : Type 0 where
  pub id : ℕ
  pub path : KeptPath
  pub at : item_at id kept ≡ Some path
  pub same : path.spec ≡ spec
  pub only : (other : ℕ) (another : KeptPath) → item_at other kept ≡ Some another → another.spec ≡ spec → other ≡ id

-- the same path with these entries
abbrev pub with_entries : (Numbered KeptPath → List Entry) → Numbered KeptPath → Numbered KeptPath
with_entries entries path = record { number = path.number; item = record { spec = path.item.spec; files = path.item.files; entries = entries path } }
