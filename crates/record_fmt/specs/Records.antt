-- The bytes of a record: which image is written for a list of values, and which values an image stands for.
-- (DDS for Physical and Logical Files, "Data type"; Database Programming, record formats.)
use Rattle.std.specs.Prelude.{◌≡◌, ℕ, ◌+◌, ◌==◌, true, Option, Some, None, is_some, option_map, Result, Ok, Err, is_ok, List, [], ◌∷◌, ◌++◌, length, take, drop, map, Vec, if◌then◌else◌}
use Rattle.std.specs.Global.{Global}
use Rattle.field_types.specs.declared.values.Value.{Value}
use Rattle.field_types.specs.declared.faults.ValueFault.{ValueFault}
use Rattle.field_types.specs.declared.faults.RecordFault.{RecordFault}
use Rattle.field_types.specs.declared.faults.RecordFault.TheVariants.{Count, BadField}
use Rattle.field_values.specs.FieldTypes.{width}
use Rattle.field_values.specs.FieldBytes.{held, written, fault_of}
use Rattle.field_values.specs.FirstBad.{IsFirstBad}
use Rattle.record_fmt.specs.declared.formats.Field.{Field}
use Rattle.record_fmt.specs.declared.formats.PackFault.{PackFault}
use Rattle.record_fmt.specs.declared.formats.PackFault.TheVariants as pack_faults

-- bytes before others, or the fault
abbrev pub behind : List ℕ → Result (List ℕ) RecordFault → Result (List ℕ) RecordFault
behind front (Ok bytes) = Ok (front ++ bytes)
behind front (Err fault) = Err fault

-- the bytes of a field before those of the fields behind it, or why it refuses its value
abbrev pub field_before : ℕ → Option ValueFault → List ℕ → Result (List ℕ) RecordFault → Result (List ℕ) RecordFault
field_before number None bytes rest = behind bytes rest
field_before number (Some cause) bytes rest = Err (BadField number cause)

-- a field's bytes before those of the fields behind it: the bytes of the value that is given, else those that stand in the old record,
-- else those of the field's default value
abbrev pub given_before : ℕ → Field → Option Value → Option (List ℕ) → Result (List ℕ) RecordFault → Result (List ℕ) RecordFault
given_before number f (Some v) old rest = field_before number (fault_of f.ty v) (written f.ty v) rest
given_before number f None (Some bytes) rest = behind (take (width f.ty) bytes) rest
given_before number f None None rest = field_before number (fault_of f.ty f.default) (written f.ty f.default) rest

-- the bytes of the fields, the first of which has this number, or the first fault
abbrev pub fields_given : ℕ → List Field → List (Option Value) → Option (List ℕ) → Result (List ℕ) RecordFault
fields_given number [] given old = Ok []
fields_given number (f ∷ fs) [] old = Ok []
fields_given number (f ∷ fs) (v ∷ vs) old = given_before number f v old (fields_given (number + 1) fs vs (option_map (drop (width f.ty)) old))

-- the image of a record with the given values, where the old image is there if one is changed; or the first fault
unfoldable pub record_given : List Field → List (Option Value) → Option (List ℕ) → Result (List ℕ) RecordFault
record_given fields given old = if length given == length fields then fields_given 1 fields given old else Err Count

-- the image of a record with a value of each field, or the first fault
abbrev pub record_written : List Field → List Value → Result (List ℕ) RecordFault
record_written fields values = record_given fields (map Some values) None

-- a value before others, where they all are there
abbrev pub both : Option Value → Option (List Value) → Option (List Value)
both None rest = None
both (Some v) None = None
both (Some v) (Some vs) = Some (v ∷ vs)

-- the values that stand in the fields, one behind the other, and nothing is behind them
abbrev pub fields_held : List Field → List ℕ → Option (List Value)
fields_held [] [] = Some []
fields_held [] (b ∷ bs) = None
fields_held (f ∷ fs) image = both (held f.ty (take (width f.ty) image)) (fields_held fs (drop (width f.ty) image))

-- the values that stand in a record
unfoldable pub record_held : List Field → List ℕ → Option (List Value)
record_held fields image = fields_held fields image

-- an image of a record begins with the bytes before this one, and none with them and this one
abbrev pub IsRecordBadAt : List Field → List ℕ → ℕ → Type 0
IsRecordBadAt fields image at = IsFirstBad (λ bytes. is_some (record_held fields bytes)) image at

-- what packing answers: the image or the fault, and out of memory only in place of an image
abbrev pub Packs : Result (List ℕ) RecordFault → Result (Vec ℕ Global) PackFault → Type 0
Packs wanted (Ok image) = wanted ≡ Ok image.items
Packs wanted (Err pack_faults.NoMemory) = is_ok wanted ≡ true
Packs wanted (Err (pack_faults.Refused fault)) = wanted ≡ Err fault
