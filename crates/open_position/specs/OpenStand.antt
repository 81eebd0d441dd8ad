-- Where does an open stand, by values, when its position is kept in bytes? (Database Programming, "Setting a position in the file".)
use Rattle.std.specs.Prelude.{◌≡◌, ℕ, ◌<◌, ◌≤◌, Bool, None, List, [], ◌∷◌, length, All, AllPairs, slice_index_or}
use Rattle.field_types.specs.declared.values.Value.{Value}
use Rattle.key_spec.specs.declared.KeyPart.{KeyPart}
use Rattle.key_pages.specs.declared.entries.Entry.{Entry}
use Rattle.file_model.specs.KeyOrder.{merged_parts}
use Rattle.file_model.specs.Paths.{PathEntry}
use Rattle.file_model.specs.Positions.{Bound, KeyBound, NumberBound, Position, Start, End, On, Before, Past}
use Rattle.access_path.below.key_order.specs.declared.widths.TheConstants.{MOST_POSITIONS}
use Rattle.access_path.specs.KeyBytes.{encoded, encoded_values}
use Rattle.access_path.specs.KeyFields.{AreBytes, ArePositions, HasKey, Matches}
use Rattle.access_path.specs.GivenValues.{IsOfBytes, key_fault}
use Rattle.key_values.specs.KeyValues.{values_in}
use Rattle.file_cursor.specs.CursorPosition as bytes

-- where an open stands and where it stood at the last boundary; the positions of the key in each format that it reads, none of which has
-- any where the open reads by relative record numbers; and whether it keeps boundaries
pub record OpenStand : Type 0 where
  pub position : Position PathEntry
  pub boundary : Position PathEntry
  pub formats : List (List KeyPart)
  pub marks : Bool

-- formats whose keys can be compared with one another and with given values
pub record AreFormatKeys (formats : List (List KeyPart)) : Type 0 where
  pub few : length (merged_parts formats) ≤ MOST_POSITIONS
  pub allowed : ArePositions (merged_parts formats)
  pub matching : AllPairs Matches formats

-- ---- what bytes stand for, by the positions of the file's key

abbrev pub entry_by : List KeyPart → Entry → PathEntry
entry_by parts entry = record { key = values_in parts entry.key; format = entry.format; rrn = entry.rrn }

abbrev pub bound_by : List KeyPart → bytes.CursorBound → Bound
bound_by parts (bytes.ByKey key) = KeyBound (values_in parts key)
bound_by parts (bytes.ByNumber n) = NumberBound n

abbrev pub position_by : List KeyPart → bytes.CursorPosition → Position PathEntry
position_by parts bytes.Start = Start
position_by parts bytes.End = End
position_by parts (bytes.On entry) = On (entry_by parts entry)
position_by parts (bytes.Before bound) = Before (bound_by parts bound)
position_by parts (bytes.Past bound) = Past (bound_by parts bound)

-- ---- which bytes they can be

-- the positions of the key in the format of this number
abbrev pub parts_at : List (List KeyPart) → (number : ℕ) → List KeyPart
parts_at formats number = slice_index_or formats number []

-- the key of a record in one of these formats
pub record IsEntryIn (formats : List (List KeyPart)) (entry : Entry) : Type 0 where
  pub format : entry.format < length formats
  pub key : (image : List ℕ) × AreBytes image × HasKey (parts_at formats entry.format) image × (entry.key ≡ encoded (parts_at formats entry.format) image)

-- values that a request gives for the first positions
pub record AreGivenBytes (parts : List KeyPart) (key : List ℕ) : Type 0 where
  pub given : (values : List Value) × (key_fault parts values ≡ None) × All IsOfBytes values × (key ≡ encoded_values parts values)

-- the open reads by relative record numbers
abbrev pub HasNoKey : List (List KeyPart) → Type 0
HasNoKey formats = formats ≡ [] ∷ []

abbrev pub IsBoundIn : List (List KeyPart) → bytes.CursorBound → Type 0
IsBoundIn formats (bytes.ByKey key) = AreGivenBytes (merged_parts formats) key
IsBoundIn formats (bytes.ByNumber n) = HasNoKey formats

abbrev pub IsStandIn : List (List KeyPart) → bytes.CursorPosition → Type 0
IsStandIn formats bytes.Start = Unit {0}
IsStandIn formats bytes.End = Unit {0}
IsStandIn formats (bytes.On entry) = IsEntryIn formats entry
IsStandIn formats (bytes.Before bound) = IsBoundIn formats bound
IsStandIn formats (bytes.Past bound) = IsBoundIn formats bound
