-- Which is the least number of a record whose key another record of the path has? (DDS for Physical and Logical Files,
-- "UNIQUE".)
use Rattle.std.specs.Prelude.{◌≡◌, ℕ, ◌≤◌, true, Option, Some, None, List, [], ◌∷◌, length, is_some, if◌then◌else◌}
use Rattle.key_pages.specs.declared.entries.Entry.{Entry}
use Rattle.member_slots.specs.Members.{NumberedMembers}
use Rattle.view_rules.below.file_model.specs.declared.paths.PathSpec.{PathSpec}
use Rattle.access_path.specs.Clash.{lesser, least_other}
use Rattle.access_path.specs.PathBytes.{IsInBytes}

-- the number of an entry whose key another record has
abbrev pub repeated_number : List Entry → Entry → Option ℕ
repeated_number entries entry = if is_some (least_other entry.key entry.rrn entries) then Some entry.rrn else None

-- the least such number of some of the entries
abbrev pub least_repeated : (entries some : List Entry) → Option ℕ
least_repeated entries [] = None
least_repeated entries (entry ∷ some) = lesser (repeated_number entries entry) (least_repeated entries some)

-- equal keys can be told by the entries: keys compare by their bytes, and one format alone is unique
pub record TellsRepeated (spec : PathSpec) (members : NumberedMembers) : Type 0 where
  pub bytes : IsInBytes spec members
  pub one : spec.unique ≡ true → length spec.formats ≤ 1
