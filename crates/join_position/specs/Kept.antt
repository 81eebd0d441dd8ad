-- How does an open of a join file keep where it stands? (Our own.)
use Rattle.std.specs.Prelude.{◌≡◌, ℕ, ◌≤◌, ◌<◌, List, [], ◌∷◌, map, length, Option, Some, None, All}
use Rattle.key_spec.specs.declared.KeyPart.{KeyPart}
use Rattle.key_spec.specs.declared.KeyPart.TheVariants.{Field, Absent}
use Rattle.member_slots.specs.Members.{NumberedMembers, member_of}
use Rattle.file_model.specs.declared.joins.Secondary.{Secondary}
use Rattle.file_model.specs.declared.joins.JoinSpec.{JoinSpec}
use Rattle.file_model.specs.declared.paths.PathFormat.{PathFormat}
use Rattle.file_model.specs.KeyOrder.{KeyValue, Missing, key_value}
use Rattle.file_model.specs.Joins.{Match, NoRecord, RecordAt, RowPlace}
use Rattle.file_model.specs.Positions.{KeyBound, Position, Start, End, On, Before, Past}
use Rattle.access_path.below.key_order.specs.declared.widths.TheConstants.{MOST_POSITIONS}
use Rattle.access_path.specs.KeyBytes.{encoded}
use Rattle.access_path.specs.KeyFields.{AreBytes, ArePositions, key_width}
use Rattle.open_position.specs.KeyValues.{values_in}
use Rattle.join_rows.specs.declared.positions.MatchPlace.{MatchPlace}
use Rattle.join_rows.specs.declared.positions.MatchPlace.TheVariants as places
use Rattle.join_rows.specs.Numbers.{image_at}
use Rattle.join_rows.specs.Places.{sequence_bytes}
use Rattle.join_rows.specs.Rows.{parts_in}
use Rattle.open_position.specs.OpenStand.{AreGivenBytes}
use Rattle.open_position.specs.declared.position.Side.{Side}
use Rattle.open_position.specs.declared.position.Side.TheVariants as sides
use Rattle.join_position.specs.declared.position.Stand.{Stand}
use Rattle.join_position.specs.declared.position.Stand.TheVariants as stands
use Rattle.join_position.specs.RowStand.{JoinStand}

-- ---- a record of a secondary file

-- the position of JDUPSEQ in the file, the bytes of a record's value there, and its number; none where no record is joined
pub record MatchKept : Type 0 where
  pub part : KeyPart
  pub bytes : List ℕ
  pub number : Option ℕ

-- the value for which the bytes stand
abbrev pub first_value : List KeyValue → KeyValue
first_value [] = Missing
first_value (v ∷ values) = v

abbrev pub sequence_in : KeyPart → List ℕ → KeyValue
sequence_in (Field t offset descend absval) bytes = first_value (values_in (Field t offset descend absval ∷ []) bytes)
sequence_in Absent bytes = Missing

abbrev pub match_by : KeyPart → List ℕ → Option ℕ → Match
match_by part bytes None = NoRecord
match_by part bytes (Some rrn) = RecordAt (sequence_in part bytes) rrn

abbrev pub match_in : MatchKept → Match
match_in m = match_by m.part m.bytes m.number

-- the bytes are those of a record of bytes
pub record IsRecordKept (part : KeyPart) (bytes : List ℕ) (rrn : ℕ) : Type 0 where
  pub some : 1 ≤ rrn
  pub most : rrn < 4294967295
  pub held : (image : List ℕ) × AreBytes image × (bytes ≡ sequence_bytes part (key_value part image))

abbrev pub IsThere : KeyPart → List ℕ → Option ℕ → Type 0
IsThere part bytes None = Unit {0}
IsThere part bytes (Some rrn) = IsRecordKept part bytes rrn

-- and there is room for those of any
pub record IsMatchKept (part : KeyPart) (bytes : List ℕ) (number : Option ℕ) (capacity : ℕ) : Type 0 where
  pub room : key_width (part ∷ []) ≤ capacity
  pub there : IsThere part bytes number

-- ---- what settling makes of it

abbrev pub record_kept : (image : List ℕ) → (rrn : ℕ) → MatchKept → MatchKept
record_kept image rrn m = record { part = m.part; bytes = sequence_bytes m.part (key_value m.part image); number = Some rrn }

abbrev pub none_kept : MatchKept → MatchKept
none_kept m = record { part = m.part; bytes = m.bytes; number = None }

abbrev pub number_kept : NumberedMembers → Secondary → Option ℕ → MatchKept → MatchKept
number_kept members file None m = none_kept m
number_kept members file (Some rrn) m = record_kept (image_at (member_of file.member members) rrn) rrn m

-- one of each file
abbrev pub numbers_kept : NumberedMembers → List Secondary → List (Option ℕ) → List MatchKept → List MatchKept
numbers_kept members [] numbers matches = matches
numbers_kept members (file ∷ files) [] matches = matches
numbers_kept members (file ∷ files) (n ∷ numbers) [] = []
numbers_kept members (file ∷ files) (n ∷ numbers) (m ∷ matches) = number_kept members file n m ∷ numbers_kept members files numbers matches

-- ---- what a read is given of it

abbrev pub value_with : List ℕ → Option ℕ → Option (List ℕ × ℕ)
value_with bytes None = None
value_with bytes (Some rrn) = Some (bytes, rrn)

abbrev pub value_kept : MatchKept → Option (List ℕ × ℕ)
value_kept m = value_with m.bytes m.number

abbrev pub value_placed : MatchPlace → Option (List ℕ × ℕ)
value_placed places.Missing = None
value_placed (places.Record sequence rrn) = Some (sequence.now, rrn)

pub record ArePlaced (matches : List MatchKept) (places : List MatchPlace) : Type 0 where
  pub values : map value_placed places ≡ map value_kept matches
  pub there : All (λ m. IsThere m.part m.bytes m.number) matches

-- ---- the position

-- the key of a record of bytes
pub record IsKeyOf (parts : List KeyPart) (key : List ℕ) : Type 0 where
  pub held : (image : List ℕ) × AreBytes image × (key ≡ encoded parts image)

abbrev pub place_by : List KeyPart → (key : List ℕ) → (rrn : ℕ) → List MatchKept → RowPlace
place_by parts key rrn matches = record {
  primary = record { key = values_in parts key; format = 0; rrn = rrn };
  matches = map match_in matches;
}

abbrev pub position_by : List KeyPart → Stand → (key : List ℕ) → List MatchKept → Position RowPlace
position_by parts stands.Start key matches = Start
position_by parts stands.End key matches = End
position_by parts (stands.On rrn) key matches = On (place_by parts key rrn matches)
position_by parts stands.Before key matches = Before (KeyBound (values_in parts key))
position_by parts stands.Past key matches = Past (KeyBound (values_in parts key))

-- the key and the matches are of the files of a join
pub record IsStandFor (spec : JoinSpec) (parts : List KeyPart) (matches : List MatchKept) : Type 0 where
  pub one : (format : PathFormat) × (spec.primary.formats ≡ format ∷ [])
  pub parts_are : parts_in spec.primary.formats ≡ parts
  pub sequences : map (λ file. file.sequence) spec.secondaries ≡ map (λ m. m.part) matches

-- what is kept stands for this
abbrev pub stand_of : List KeyPart → Stand → (key : List ℕ) → List MatchKept → JoinStand
stand_of parts stand key matches = record {
  position = position_by parts stand key matches;
  parts = parts;
  sequences = map (λ m. m.part) matches;
}

-- the bytes are some that an open can have there
abbrev pub IsStandIn : List KeyPart → Stand → (key : List ℕ) → Type 0
IsStandIn parts stands.Start key = Unit {0}
IsStandIn parts stands.End key = Unit {0}
IsStandIn parts (stands.On rrn) key = (1 ≤ rrn) × (rrn < 4294967295) × IsKeyOf parts key
IsStandIn parts stands.Before key = AreGivenBytes parts key
IsStandIn parts stands.Past key = AreGivenBytes parts key

-- the side of values on which it stands
abbrev pub at_side : Side → Stand
at_side sides.Before = stands.Before
at_side sides.Past = stands.Past

-- and there is room for those of any key
pub record IsKeptStand (parts : List KeyPart) (stand : Stand) (key : List ℕ) (capacity : ℕ) : Type 0 where
  pub few : length parts ≤ MOST_POSITIONS
  pub allowed : ArePositions parts
  pub room : key_width parts ≤ capacity
  pub stands : IsStandIn parts stand key
