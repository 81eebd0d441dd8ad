-- How is a position in bytes that of a file's access path, or of its records in arrival order? (Our own.)
use Rattle.std.specs.Prelude.{◌≡◌, ℕ, ◌<◌, ◌≤◌, List, [], None, length, All}
use Rattle.field_types.specs.declared.values.Value.{Value}
use Rattle.key_pages.specs.declared.entries.Entry.{Entry}
use Rattle.key_spec.specs.declared.KeyPart.{KeyPart}
use Rattle.file_model.specs.declared.paths.PathFormat.{PathFormat}
use Rattle.file_model.specs.KeyOrder.{KeyValue, key_of, given_key}
use Rattle.file_model.specs.Paths.{PathEntry, selected_of}
use Rattle.file_model.specs.Views.{view_of}
use Rattle.member_slots.specs.Members.{NumberedMembers, member_of}
use Rattle.file_model.specs.Positions as model
use Rattle.access_path.specs.KeyBytes.{key_bytes}
use Rattle.access_path.specs.KeyFields.{AreBytes, HasKey, key_width}
use Rattle.access_path.specs.GivenValues.{key_fault, IsOfBytes}
use Rattle.access_path.specs.PathBytes.{parts_of, in_bytes}
use Rattle.file_cursor.specs.CursorPosition.{CursorBound, ByKey, ByNumber, CursorPosition, Start, End, On, Before, Past}
use Rattle.file_cursor.specs.Reading.{numbered}

-- ---- in key order

-- an entry that a record of bytes has in one of these formats
pub record IsEntryOf (formats : List PathFormat) (entry : PathEntry) : Type 0 where
  pub format : entry.format < length formats
  pub key : (image : List ℕ) × AreBytes image × (entry.key ≡ key_of (parts_of formats entry.format) image)

-- values that a request can give for the first of these positions
pub record AreGiven (parts : List KeyPart) (values : List KeyValue) : Type 0 where
  pub given : (given : List Value) × (key_fault parts given ≡ None) × All IsOfBytes given × (values ≡ given_key parts given)

abbrev pub IsBoundOf : List KeyPart → model.Bound → Type 0
IsBoundOf parts (model.KeyBound values) = AreGiven parts values
IsBoundOf parts (model.NumberBound n) = Unit {0}

-- a position that an open of these formats can have
abbrev pub IsPositionOf : List PathFormat → List KeyPart → model.Position PathEntry → Type 0
IsPositionOf formats parts model.Start = Unit {0}
IsPositionOf formats parts model.End = Unit {0}
IsPositionOf formats parts (model.On entry) = IsEntryOf formats entry
IsPositionOf formats parts (model.Before bound) = IsBoundOf parts bound
IsPositionOf formats parts (model.Past bound) = IsBoundOf parts bound

abbrev pub bound_in_bytes : List KeyPart → model.Bound → CursorBound
bound_in_bytes parts (model.KeyBound values) = ByKey (key_bytes parts values)
bound_in_bytes parts (model.NumberBound n) = ByNumber n

abbrev pub position_in_bytes : List PathFormat → List KeyPart → model.Position PathEntry → CursorPosition
position_in_bytes formats parts model.Start = Start
position_in_bytes formats parts model.End = End
position_in_bytes formats parts (model.On entry) = On (in_bytes formats entry)
position_in_bytes formats parts (model.Before bound) = Before (bound_in_bytes parts bound)
position_in_bytes formats parts (model.Past bound) = Past (bound_in_bytes parts bound)

-- each record that a format selects has its key, which has at most so many bytes
pub record HasKeysWithin (most : ℕ) (members : NumberedMembers) (format : PathFormat) : Type 0 where
  pub width : key_width format.key ≤ most
  pub keys : All (λ pair. HasKey format.key (view_of format.fields pair.1)) (selected_of format (member_of format.member members).slots)

-- ---- in arrival order

abbrev pub in_arrival : PathEntry → PathEntry
in_arrival entry = record { key = []; format = 0; rrn = entry.rrn }

abbrev pub IsNumber : model.Bound → Type 0
IsNumber (model.KeyBound values) = ⊥
IsNumber (model.NumberBound n) = Unit {0}

-- a position that an open in arrival order can have
abbrev pub IsArrivalPosition : model.Position PathEntry → Type 0
IsArrivalPosition model.Start = Unit {0}
IsArrivalPosition model.End = Unit {0}
IsArrivalPosition (model.On entry) = entry ≡ in_arrival entry
IsArrivalPosition (model.Before bound) = IsNumber bound
IsArrivalPosition (model.Past bound) = IsNumber bound

abbrev pub position_by_number : model.Position PathEntry → CursorPosition
position_by_number model.Start = Start
position_by_number model.End = End
position_by_number (model.On entry) = On (numbered entry.rrn)
position_by_number (model.Before bound) = Before (bound_in_bytes [] bound)
position_by_number (model.Past bound) = Past (bound_in_bytes [] bound)

-- the entry of a record in arrival order, in bytes
abbrev pub by_number : PathEntry → Entry
by_number entry = numbered entry.rrn
