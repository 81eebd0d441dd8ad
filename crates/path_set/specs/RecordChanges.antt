-- What does a change of one record make of the paths? (Database Programming, "Describing access paths for database files".)
use Rattle.std.specs.Prelude.{◌≡◌, ℕ, ◌+◌, ◌≤◌, ◌==◌, Bool, List, [], ◌∷◌, ◌++◌, length, map, filter, flat_map, All, Any, Option, Some, None, IsSome, ◌*◌, if◌then◌else◌}
use Rattle.key_pages.specs.declared.entries.Entry.{Entry}
use Rattle.member_slots.specs.Members.{Numbered, item_at}
use Rattle.file_model.specs.declared.paths.PathSpec.{PathSpec}
use Rattle.access_path.specs.KeptEntries.{KeyOf, image_key}
use Rattle.access_path.specs.Moves.{Move, opposite, moved, FitsIn}
use Rattle.access_path.specs.PathBytes.{is_falling, members_of}
use Rattle.path_entrants.specs.Formats.{IsAskable, keys_of}
use Rattle.path_set.specs.declared.moves.PathMove.{PathMove}
use Rattle.path_set.specs.KeptPaths.{KeptPath, KeptPaths, NumberedPaths, spare_of}

-- the image of a record before a change and after it; none where it isn't live
pub record RecordChange : Type 0 where
  pub member : ℕ
  pub rrn : ℕ
  pub old : Option (List ℕ)
  pub new : Option (List ℕ)

-- the change back
abbrev pub reversed : RecordChange → RecordChange
reversed c = record { member = c.member; rrn = c.rrn; old = c.new; new = c.old }

-- each format over the member can be asked about the image, where there is one
abbrev pub TakesImage : (member : ℕ) → Option (List ℕ) → PathSpec → Type 0
TakesImage member None spec = Unit {0}
TakesImage member (Some image) spec = All (λ format. format.member ≡ member → IsAskable format image) spec.formats

-- so can those of all paths
abbrev pub TakeImage : (member : ℕ) → Option (List ℕ) → NumberedPaths → Type 0
TakeImage member image paths = All (λ path. TakesImage member image path.item.spec) paths

-- ---- the moves

-- what a format makes of the change
abbrev pub move_in : KeyOf → RecordChange → (format : ℕ) → Move
move_in keys c format = record { format = format; rrn = c.rrn; old = image_key (keys format) c.old; new = image_key (keys format) c.new }

-- the move of a format over this member, where it is the record's
abbrev pub moves_at : KeyOf → RecordChange → (format member : ℕ) → List Move
moves_at keys c format member = if member == c.member then move_in keys c format ∷ [] else []

-- the moves of the formats over these members, the first of which has this number
abbrev pub moves_from : KeyOf → RecordChange → (format : ℕ) → (members : List ℕ) → List Move
moves_from keys c format [] = []
moves_from keys c format (member ∷ members) = moves_at keys c format member ++ moves_from keys c (format + 1) members

-- the moves of a path
abbrev pub moves_of : RecordChange → PathSpec → List Move
moves_of c spec = moves_from (keys_of spec.formats) c 0 (members_of spec.formats)

-- with the path's number
abbrev pub in_path : (id : ℕ) → List Move → List PathMove
in_path id moves = map (λ m. record { id = id; change = m }) moves

-- the moves of all paths
abbrev pub moves_in : RecordChange → NumberedPaths → List PathMove
moves_in c paths = flat_map (λ path. in_path path.number (moves_of c path.item.spec)) paths

abbrev pub opposites : List PathMove → List PathMove
opposites moves = map (λ m. record { id = m.id; change = opposite m.change }) moves

-- ---- what they make of the entries

-- the entries of the path of this number
abbrev pub entries_after : (falling : Bool) → (id : ℕ) → List PathMove → List Entry → List Entry
entries_after falling id [] entries = entries
entries_after falling id (m ∷ moves) entries = entries_after falling id moves (if m.id == id then moved falling m.change entries else entries)

abbrev pub path_after : List PathMove → Numbered KeptPath → Numbered KeptPath
path_after moves path = record {
  number = path.number;
  item = record {
    spec = path.item.spec;
    files = path.item.files;
    entries = entries_after (is_falling path.item.spec.ties) path.number moves path.item.entries;
  };
}

abbrev pub paths_after : List PathMove → NumberedPaths → NumberedPaths
paths_after moves paths = map (path_after moves) paths

-- ---- when they can be made

-- each in turn fits the entries of the path of this number
abbrev pub FitEntries : (falling : Bool) → (id : ℕ) → List PathMove → List Entry → Type 0
FitEntries falling id [] entries = Unit {0}
FitEntries falling id (m ∷ moves) entries =
    (m.id ≡ id → FitsIn falling m.change entries) × FitEntries falling id moves (if m.id == id then moved falling m.change entries else entries)

-- how many of them are of the path of this number
abbrev pub count_in : (id : ℕ) → List PathMove → ℕ
count_in id moves = length (filter (λ m. m.id == id) moves)

-- each path is kept, each move in turn fits its entries, and each path has memory for its moves
pub record CanBeMade (moves : List PathMove) (kept : KeptPaths) : Type 0 where
  pub there : All (λ m. IsSome (item_at m.id kept.paths)) moves
  pub fit : All (λ path. FitEntries (is_falling path.item.spec.ties) path.number moves path.item.entries) kept.paths
  pub room : (id : ℕ) → count_in id moves ≤ spare_of id kept

-- each path of the member has memory for the moves of so many changes
abbrev pub HaveRoom : (member changes : ℕ) → KeptPaths → Type 0
HaveRoom member changes kept =
    All (λ path. Any (λ format. format.member ≡ member) path.item.spec.formats → changes * length path.item.spec.formats ≤ spare_of path.number kept) kept.paths
