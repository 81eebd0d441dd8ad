-- What is asked of an open of a join file, and among what does it find it? (Database Programming, "Reading database records"; ILE RPG
-- Reference, "READE" and "CHAIN".)
use Rattle.std.specs.Prelude.{◌≡◌, ℕ, ◌≤◌, ◌<◌, ◌==◌, List, [], ◌∷◌, map, length, Option, Some, None, All, if◌then◌else◌}
use Rattle.std.specs.List.{find}
use Rattle.std.specs.Ordering.{is_eq}
use Rattle.key_spec.specs.declared.KeyPart.{KeyPart}
use Rattle.key_pages.specs.EntryList.{EntryList}
use Rattle.member_slots.specs.Member.{records}
use Rattle.member_slots.specs.Members.{NumberedMembers, member_of}
use Rattle.file_model.specs.declared.joins.Secondary.{Secondary}
use Rattle.file_model.specs.declared.joins.JoinSpec.{JoinSpec}
use Rattle.file_model.specs.KeyOrder.{KeyValue, begins_with}
use Rattle.file_model.specs.Joins.{Match, RowPlace, JoinRow, rows_of}
use Rattle.file_model.specs.Positions.{Position, Reading, next_from, prior_from, next_equal, prior_equal, chain_key, chain_number}
use Rattle.join_rows.specs.Finding.{compare_part}
use Rattle.join_rows.specs.PositionBytes.{HasKeysWithin}
use Rattle.access_path.specs.KeyFields.{AreBytes, HasPosition, key_width}
use Rattle.open_position.specs.KeyValues.{values_in}
use Rattle.join_rows.specs.declared.rows.Row.{Row}
use Rattle.join_rows.specs.NextRow.{next_row, prior_row}
use Rattle.join_rows.specs.Numbers.{image_at, matched_number}
use Rattle.join_rows.specs.Rows.{CanBeRead, parts_in}
use Rattle.open_position.specs.declared.reads.ReadBy.{ReadBy}
use Rattle.open_position.specs.declared.reads.ReadBy.TheVariants as asked
use Rattle.open_position.specs.OpenStand.{AreGivenBytes, entry_by}
use Rattle.join_position.specs.RowStand.{JoinStand}
use Rattle.join_position.specs.Kept.{IsKeyOf}

-- ---- what is asked

-- the place that a read finds in a reading, from a position
abbrev pub asked_of : ReadBy → List KeyPart → Reading RowPlace → Position RowPlace → Option RowPlace
asked_of asked.Next parts reading position = next_from reading position
asked_of asked.Prior parts reading position = prior_from reading position
asked_of (asked.NextEqual key) parts reading position = next_equal reading (values_in parts key.now) position
asked_of (asked.PriorEqual key) parts reading position = prior_equal reading (values_in parts key.now) position
asked_of (asked.FirstEqual key) parts reading position = chain_key reading (values_in parts key.now)
asked_of (asked.Number rrn) parts reading position = chain_number reading rrn

-- it can be asked of these positions of the primary's key; a row has no number
abbrev pub IsAskedOf : List KeyPart → ReadBy → Type 0
IsAskedOf parts asked.Next = Unit {0}
IsAskedOf parts asked.Prior = Unit {0}
IsAskedOf parts (asked.NextEqual key) = AreGivenBytes parts key.now
IsAskedOf parts (asked.PriorEqual key) = AreGivenBytes parts key.now
IsAskedOf parts (asked.FirstEqual key) = AreGivenBytes parts key.now
IsAskedOf parts (asked.Number rrn) = ⊥

-- ---- the row of that place, with its records

abbrev pub where_row : List KeyValue → Option JoinRow → Option JoinRow
where_row values None = None
where_row values (Some row) = if begins_with values row.place.primary.key then Some row else None

abbrev pub first_row : List KeyValue → List JoinRow → Option JoinRow
first_row values rows = find (λ row. begins_with values row.place.primary.key) rows

abbrev pub asked_row : ReadBy → List KeyPart → JoinSpec → NumberedMembers → Position RowPlace → Option JoinRow
asked_row asked.Next parts spec members position = next_row spec members position
asked_row asked.Prior parts spec members position = prior_row spec members position
asked_row (asked.NextEqual key) parts spec members position = where_row (values_in parts key.now) (next_row spec members position)
asked_row (asked.PriorEqual key) parts spec members position = where_row (values_in parts key.now) (prior_row spec members position)
asked_row (asked.FirstEqual key) parts spec members position = first_row (values_in parts key.now) (rows_of spec members)
asked_row (asked.Number rrn) parts spec members position = find (λ row. row.place.primary.rrn == rrn) (rows_of spec members)

-- the same in bytes
abbrev pub where_bytes : List ℕ → Option Row → Option Row
where_bytes key None = None
where_bytes key (Some row) = if is_eq (compare_part key row.primary.now.key) then Some row else None

-- ---- among what it is found

-- each record has a value under JDUPSEQ
abbrev pub HasSequences : NumberedMembers → Secondary → Type 0
HasSequences members file = All (λ pair. HasPosition file.sequence pair.1) (records (member_of file.member members))

-- the paths are those of the join file of this open, whose records have their keys and values
pub record IsJoinOf (stand : JoinStand) (spec : JoinSpec) (members : NumberedMembers) (primary : EntryList) (secondaries : List EntryList) : Type 0 where
  pub read : CanBeRead spec members primary secondaries
  pub parts : parts_in spec.primary.formats ≡ stand.parts
  pub sequences : map (λ file. file.sequence) spec.secondaries ≡ stand.sequences
  pub held : (most : ℕ) × All (HasKeysWithin most members) spec.primary.formats
  pub sequenced : All (HasSequences members) spec.secondaries

-- ---- what is found

-- the place of a row, by its entry and the numbers of its records
abbrev pub matches_by : NumberedMembers → List Secondary → List (Option ℕ) → List Match
matches_by members [] numbers = []
matches_by members (file ∷ files) [] = []
matches_by members (file ∷ files) (n ∷ numbers) = (matched_number file members n).match ∷ matches_by members files numbers

abbrev pub place_of : List KeyPart → JoinSpec → NumberedMembers → Row → RowPlace
place_of parts spec members row = record { primary = entry_by parts row.primary.now; matches = matches_by members spec.secondaries row.numbers.items }

-- ---- on what an open can stand

-- a record of bytes with a value under JDUPSEQ
pub record IsHeld (members : NumberedMembers) (file : Secondary) (rrn : ℕ) : Type 0 where
  pub bytes : AreBytes (image_at (member_of file.member members) rrn)
  pub there : HasPosition file.sequence (image_at (member_of file.member members) rrn)

abbrev pub IsNumber : NumberedMembers → Secondary → Option ℕ → Type 0
IsNumber members file None = Unit {0}
IsNumber members file (Some rrn) = (1 ≤ rrn) × (rrn < 4294967295) × IsHeld members file rrn

-- each is that of such a record, or of none, one of each file
abbrev pub AreNumbers : NumberedMembers → List Secondary → List (Option ℕ) → Type 0
AreNumbers members [] numbers = Unit {0}
AreNumbers members (file ∷ files) [] = ⊥
AreNumbers members (file ∷ files) (n ∷ numbers) = IsNumber members file n × AreNumbers members files numbers

pub record CanBeKept (parts : List KeyPart) (spec : JoinSpec) (members : NumberedMembers) (row : Row) : Type 0 where
  pub first : row.primary.now.format ≡ 0
  pub some : 1 ≤ row.primary.now.rrn
  pub most : row.primary.now.rrn < 4294967295
  pub key : IsKeyOf parts row.primary.now.key
  pub short : length row.primary.now.key ≤ key_width parts
  pub numbers : AreNumbers members spec.secondaries row.numbers.items
