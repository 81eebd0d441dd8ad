-- What does a logical file show of a record, and which record do values make that are given through it?
-- (DDS for Physical and Logical Files: "RENAME", "CONCAT", "SST", "Data type" of a logical field, "DFT". That a value
-- is judged by the logical field first and then by the field under it is this project's own.)
use Rattle.std.specs.Prelude.{ℕ, ◌+◌, ◌==◌, List, [], ◌∷◌, ◌++◌, length, map, take, drop, flat_map, Option, Some, None, Result, Ok, Err, if◌then◌else◌}
use Rattle.decimal_order.below.field_types.specs.declared.kinds.FieldType.{FieldType}
use Rattle.decimal_order.below.field_types.specs.declared.kinds.Kind.TheVariants.{Char}
use Rattle.decimal_order.below.field_types.specs.declared.values.Value.{Value}
use Rattle.decimal_order.below.field_types.specs.declared.faults.ValueFault.{ValueFault}
use Rattle.decimal_order.below.field_types.specs.declared.faults.ValueFault.TheVariants.{ReadOnlyField}
use Rattle.decimal_order.below.field_types.specs.declared.faults.RecordFault.{RecordFault}
use Rattle.decimal_order.below.field_types.specs.declared.faults.RecordFault.TheVariants.{Count, BadField}
use Rattle.record_fmt.specs.FieldTypes.{width}
use Rattle.record_fmt.specs.FieldBytes.{held, written, fault_of, filled}
use Rattle.record_fmt.specs.FirstBad.{part}
use Rattle.record_fmt.specs.declared.formats.Field.{Field}
use Rattle.file_model.specs.declared.views.Piece.{Piece}
use Rattle.file_model.specs.declared.views.FieldSource.{FieldSource}
use Rattle.file_model.specs.declared.views.FieldSource.TheVariants.{Copied, Converted, Concatenated, Substring}
use Rattle.file_model.specs.declared.views.ViewField.{ViewField}
use Rattle.file_model.specs.declared.views.LogicalField.{LogicalField}

-- ---- what is shown

-- the bytes of a value, where there is one
abbrev pub written_as : FieldType → Option Value → List ℕ
written_as t (Some v) = written t v
written_as t None = []

-- some bytes of an image
abbrev pub piece_of : List ℕ → Piece → List ℕ
piece_of image p = part p.offset p.length image

-- the bytes of a field of this type: a copy, the same value at this type, or characters and blanks up to the length
abbrev pub shown : FieldType → FieldSource → List ℕ → List ℕ
shown t (Copied offset) image = part offset (width t) image
shown t (Converted from offset) image = written_as t (held from (part offset (width from) image))
shown t (Concatenated pieces) image = filled (width t) (flat_map (piece_of image) pieces)
shown t (Substring piece) image = filled (width t) (piece_of image piece)

-- the bytes of a field, as its format shows them
abbrev pub field_image : List ℕ → ViewField → List ℕ
field_image image f = shown f.ty f.source image

-- the value of a field, which each image of a record has
abbrev pub field_value : List ℕ → ViewField → Option Value
field_value image f = held f.ty (field_image image f)

-- the image that some fields make of a record, one after another
abbrev pub view_of : List ViewField → List ℕ → List ℕ
view_of fields image = flat_map (field_image image) fields

-- the image of a logical format
abbrev pub logical_image : List LogicalField → List ℕ → List ℕ
logical_image fields image = view_of (map (λ f. f.field) fields) image

-- ---- what is stored

-- bytes in the place of those of an image
abbrev pub put_at : ℕ → List ℕ → List ℕ → List ℕ
put_at offset bytes image = take offset image ++ bytes ++ drop (offset + length bytes) image

-- a text split over pieces of the image, the first part into the first piece
abbrev pub put_pieces : List Piece → List ℕ → List ℕ → List ℕ
put_pieces [] text image = image
put_pieces (p ∷ pieces) text image = put_pieces pieces (drop p.length text) (put_at p.offset (take p.length text) image)

-- the bytes of some pieces together
abbrev pub pieces_length : List Piece → ℕ
pieces_length [] = 0
pieces_length (p ∷ pieces) = p.length + pieces_length pieces

-- a character field of this length
abbrev pub character : ℕ → FieldType
character length = record { kind = Char; length = length; decimals = 0 }

-- the type under which a field's value is stored
abbrev pub stored_type : FieldType → FieldSource → FieldType
stored_type t (Copied offset) = t
stored_type t (Converted from offset) = from
stored_type t (Concatenated pieces) = character (pieces_length pieces)
stored_type t (Substring piece) = character piece.length

-- a record with a value of a field in its place; a substring stores nothing
abbrev pub put_value : FieldType → FieldSource → Value → List ℕ → List ℕ
put_value t (Copied offset) v image = put_at offset (written t v) image
put_value t (Converted from offset) v image = put_at offset (written from v) image
put_value t (Concatenated pieces) v image = put_pieces pieces (written (character (pieces_length pieces)) v) image
put_value t (Substring piece) v image = image

-- the first of two faults
abbrev pub first_fault : Option ValueFault → Option ValueFault → Option ValueFault
first_fault (Some fault) other = Some fault
first_fault None other = other

-- why a field refuses a value: it takes none, or the value fits the field or the one under it no more
abbrev pub refusal : LogicalField → Value → Option ValueFault
refusal f v =
    if f.read_only then Some ReadOnlyField
    else first_fault (fault_of f.field.ty v) (fault_of (stored_type f.field.ty f.field.source) v)

-- a record with a value of a field in its place, or why the field of this number refuses it
abbrev pub put_or_refused : ℕ → LogicalField → Value → List ℕ → Option ValueFault → Result (List ℕ) RecordFault
put_or_refused number f v image (Some cause) = Err (BadField number cause)
put_or_refused number f v image None = Ok (put_value f.field.ty f.field.source v image)

-- the values that are given, put in order from the field of this number on; the first refusal counts
abbrev pub put_given : ℕ → List LogicalField → List (Option Value) → Result (List ℕ) RecordFault → Result (List ℕ) RecordFault
put_given number [] given image = image
put_given number (f ∷ fields) [] image = image
put_given number (f ∷ fields) (v ∷ given) (Err fault) = Err fault
put_given number (f ∷ fields) (None ∷ given) (Ok image) = put_given (number + 1) fields given (Ok image)
put_given number (f ∷ fields) (Some v ∷ given) (Ok image) = put_given (number + 1) fields given (put_or_refused number f v image (refusal f v))

-- a record of default values
abbrev pub default_image : List Field → List ℕ
default_image fields = flat_map (λ f. written f.ty f.default) fields

-- the record that is changed, or the default values of the base file's fields
abbrev pub old_or_default : List Field → Option (List ℕ) → List ℕ
old_or_default base None = default_image base
old_or_default base (Some old) = old

-- the base file's record that values make which are given through a logical format, over the old record where one is
-- changed; or the first fault
abbrev pub base_image : List Field → List LogicalField → List (Option Value) → Option (List ℕ) → Result (List ℕ) RecordFault
base_image base fields given old =
    if length given == length fields then put_given 1 fields given (Ok (old_or_default base old)) else Err Count
