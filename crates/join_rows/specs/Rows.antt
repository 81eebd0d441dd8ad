-- What does a join file need so that its rows can be read, and which rows are found? (Our own.)
use Rattle.std.specs.Prelude.{◌≡◌, ℕ, ◌-◌, ◌≤◌, ◌<◌, Bool, List, [], ◌∷◌, Option, Some, None, All, if◌then◌else◌}
use Rattle.std.specs.Ordering.{nat_cmp, ordering_then, is_eq}
use Rattle.key_spec.specs.declared.KeyPart.{KeyPart}
use Rattle.key_pages.specs.declared.entries.Entry.{Entry}
use Rattle.key_pages.specs.EntryList.{EntryList}
use Rattle.key_pages.specs.Order.{key_cmp}
use Rattle.member_slots.specs.Member.{records}
use Rattle.member_slots.specs.Members.{NumberedMembers, member_of}
use Rattle.file_model.specs.declared.paths.PathFormat.{PathFormat}
use Rattle.file_model.specs.declared.joins.JoinSpec.{JoinSpec}
use Rattle.file_model.specs.Joins.{RowPlace, JoinRow}
use Rattle.file_model.specs.Paths.{PathEntry}
use Rattle.file_model.specs.Positions as model
use Rattle.access_path.specs.KeyBytes.{key_bytes}
use Rattle.access_path.specs.KeptEntries.{entry_with}
use Rattle.access_path.specs.PathBytes.{in_bytes, IsInBytes}
use Rattle.file_cursor.specs.CursorPosition.{CursorPosition, Start, End, On, Before, Past, ByKey}
use Rattle.file_cursor.specs.Finding.{next_from, prior_from}
use Rattle.file_cursor.specs.PositionBytes.{IsEntryOf, AreGiven}
use Rattle.join_rows.specs.declared.positions.MatchPlace.{MatchPlace}
use Rattle.join_rows.specs.declared.positions.RowPosition.{RowPosition}
use Rattle.join_rows.specs.declared.positions.RowPosition.TheVariants as rows
use Rattle.join_rows.specs.declared.rows.Row.{Row}
use Rattle.join_rows.specs.NextRow.{row_of_entry, next_row, prior_row}
use Rattle.join_rows.specs.Numbers.{row_by}
use Rattle.join_rows.specs.Places.{IsPathOf}
use Rattle.join_rows.specs.Reading.{Feeds, AreReadable, ArePlacesOf}
use Rattle.join_rows.specs.Trials.{next_number}

-- ---- what is read

-- the paths are those of a join file, whose primary file has one format
pub record CanBeRead (spec : JoinSpec) (members : NumberedMembers) (primary : EntryList) (secondaries : List EntryList) : Type 0 where
  pub format : PathFormat
  pub one : spec.primary.formats ≡ format ∷ []
  pub path : IsPathOf primary spec.primary members
  pub keys : IsInBytes spec.primary members
  pub records : All (λ pair. Feeds 0 spec.secondaries pair.1) (records (member_of format.member members))
  pub files : AreReadable members 1 spec.secondaries secondaries

-- ---- where a read begins

-- an entry of the primary's path, and a place for each secondary file
pub record IsPlace (spec : JoinSpec) (key : List ℕ) (rrn : ℕ) (matches : List MatchPlace) (place : RowPlace) : Type 0 where
  pub primary : in_bytes spec.primary.formats place.primary ≡ entry_with 0 rrn key
  pub is_entry : IsEntryOf spec.primary.formats place.primary
  pub some : 1 ≤ rrn
  pub most : rrn < 4294967295
  pub secondaries : ArePlacesOf spec.secondaries matches place.matches

-- the positions of the primary's key
abbrev pub parts_in : List PathFormat → List KeyPart
parts_in [] = []
parts_in (format ∷ formats) = format.key

abbrev pub IsBound : JoinSpec → (part : List ℕ) → model.Bound → Type 0
IsBound spec part (model.KeyBound values) = (part ≡ key_bytes (parts_in spec.primary.formats) values) × AreGiven (parts_in spec.primary.formats) values
IsBound spec part (model.NumberBound n) = ⊥

-- a position in bytes stands for one of an open, which isn't set by a relative record number in a join file
abbrev pub IsAt : JoinSpec → RowPosition → model.Position RowPlace → Type 0
IsAt spec rows.Start model.Start = Unit {0}
IsAt spec rows.Start model.End = ⊥
IsAt spec rows.Start (model.On place) = ⊥
IsAt spec rows.Start (model.Before bound) = ⊥
IsAt spec rows.Start (model.Past bound) = ⊥
IsAt spec rows.End model.Start = ⊥
IsAt spec rows.End model.End = Unit {0}
IsAt spec rows.End (model.On place) = ⊥
IsAt spec rows.End (model.Before bound) = ⊥
IsAt spec rows.End (model.Past bound) = ⊥
IsAt spec (rows.On key rrn matches) model.Start = ⊥
IsAt spec (rows.On key rrn matches) model.End = ⊥
IsAt spec (rows.On key rrn matches) (model.On place) = IsPlace spec key.now rrn matches.now place
IsAt spec (rows.On key rrn matches) (model.Before bound) = ⊥
IsAt spec (rows.On key rrn matches) (model.Past bound) = ⊥
IsAt spec (rows.Before part) model.Start = ⊥
IsAt spec (rows.Before part) model.End = ⊥
IsAt spec (rows.Before part) (model.On place) = ⊥
IsAt spec (rows.Before part) (model.Before bound) = IsBound spec part.now bound
IsAt spec (rows.Before part) (model.Past bound) = ⊥
IsAt spec (rows.Past part) model.Start = ⊥
IsAt spec (rows.Past part) model.End = ⊥
IsAt spec (rows.Past part) (model.On place) = ⊥
IsAt spec (rows.Past part) (model.Before bound) = ⊥
IsAt spec (rows.Past part) (model.Past bound) = IsBound spec part.now bound

-- ---- what is found

-- an entry of the primary's path, and the records with these numbers
pub record IsRow (spec : JoinSpec) (members : NumberedMembers) (found : Row) (row : JoinRow) : Type 0 where
  pub entry : PathEntry
  pub primary : in_bytes spec.primary.formats entry ≡ found.primary.now
  pub is : row ≡ row_by members spec.secondaries (row_of_entry spec members entry) found.numbers.items

abbrev pub IsFound : JoinSpec → NumberedMembers → Option Row → Option JoinRow → Type 0
IsFound spec members None None = Unit {0}
IsFound spec members None (Some row) = ⊥
IsFound spec members (Some found) None = ⊥
IsFound spec members (Some found) (Some row) = IsRow spec members found row

-- the first row after a position, or the last before it
abbrev pub found_row : (back : Bool) → JoinSpec → NumberedMembers → model.Position RowPlace → Option JoinRow
found_row back spec members position = if back then prior_row spec members position else next_row spec members position

-- ---- the entries of the primary's path

abbrev pub first_member : List PathFormat → ℕ
first_member [] = 0
first_member (format ∷ formats) = format.member

-- the number that stands before this one, and the one behind it
abbrev pub number_low : (falling : Bool) → ℕ → ℕ
number_low falling rrn = if falling then next_number rrn else rrn - 1

abbrev pub number_high : (falling : Bool) → ℕ → ℕ
number_high falling rrn = if falling then rrn - 1 else next_number rrn

-- the entries that may have a row after a position are those after this one
abbrev pub next_place : (falling : Bool) → RowPosition → CursorPosition
next_place falling rows.Start = Start
next_place falling rows.End = End
next_place falling (rows.On key rrn matches) = On (entry_with 0 (number_low falling rrn) key.now)
next_place falling (rows.Before part) = Before (ByKey part.now)
next_place falling (rows.Past part) = Past (ByKey part.now)

-- and those that may have one before it those before this one
abbrev pub prior_place : (falling : Bool) → RowPosition → CursorPosition
prior_place falling rows.Start = Start
prior_place falling rows.End = End
prior_place falling (rows.On key rrn matches) = On (entry_with 0 (number_high falling rrn) key.now)
prior_place falling (rows.Before part) = Before (ByKey part.now)
prior_place falling (rows.Past part) = Past (ByKey part.now)

abbrev pub place_by : (back falling : Bool) → RowPosition → CursorPosition
place_by back falling from = if back then prior_place falling from else next_place falling from

-- the first entry after a position, or the last before it
abbrev pub found_entry : (back : Bool) → EntryList → CursorPosition → Option Entry
found_entry back list position = if back then prior_from list.falling list.entries position else next_from list.falling list.entries position

-- what is left of a position below an entry
abbrev pub left_where : Bool → List MatchPlace → Option (List MatchPlace)
left_where is_there matches = if is_there then Some matches else None

abbrev pub left_of_entry : Entry → RowPosition → Option (List MatchPlace)
left_of_entry entry rows.Start = None
left_of_entry entry rows.End = None
left_of_entry entry (rows.On key rrn matches) = left_where (is_eq (ordering_then (key_cmp entry.key key.now) (nat_cmp entry.rrn rrn))) matches.now
left_of_entry entry (rows.Before part) = None
left_of_entry entry (rows.Past part) = None
