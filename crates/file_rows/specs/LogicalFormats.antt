-- The logical formats of the rows: over records of a name and a number.
use Rattle.std.specs.Prelude.{ℕ, Bool, true, false, List, [], ◌∷◌, codes}
use Rattle.field_types.specs.declared.kinds.Kind.TheVariants.{Packed}
use Rattle.field_types.specs.declared.kinds.FieldType.{FieldType}
use Rattle.record_fmt.specs.declared.formats.Field.{Field as RecordField}
use Rattle.key_spec.specs.declared.KeyPart.TheVariants.{Field}
use Rattle.key_spec.specs.declared.KeySpec.{KeySpec}
use Rattle.key_spec.specs.declared.Ties.TheVariants.{Rising}
use Rattle.file_model.specs.declared.views.ViewField.{ViewField}
use Rattle.file_model.specs.declared.views.Piece.{Piece}
use Rattle.file_model.specs.declared.views.FieldSource.{FieldSource}
use Rattle.file_model.specs.declared.views.FieldSource.TheVariants.{Copied, Converted, Concatenated, Substring}
use Rattle.file_model.specs.declared.views.LogicalField.{LogicalField}
use Rattle.file_rows.specs.Files.{three_digits, characters, whole, text}

abbrev pub field : FieldType → FieldSource → (read_only : Bool) → LogicalField
field t source read_only = record { field = record { ty = t; source = source }; read_only = read_only }

abbrev pub piece : (offset length : ℕ) → Piece
piece offset length = record { offset = offset; length = length }

-- NAME 5A and NO 3P 0, with the defaults of their types
abbrev pub named_and_numbered : List RecordField
named_and_numbered =
    record { name = codes "NAME"; ty = characters 5; offset = 0; default = text []; text = [] }
    ∷ record { name = codes "NO"; ty = three_digits; offset = 5; default = whole 0; text = [] } ∷ []

-- NM, RENAME(NAME)
abbrev pub renamed : List LogicalField
renamed = field (characters 5) (Copied 0) false ∷ []

-- N2, SST(NAME 2 2)
abbrev pub second_and_third : List LogicalField
second_and_third = field (characters 2) (Substring (piece 1 2)) true ∷ []

-- NO with seven digits, two of them decimals, then NAME with eight characters
abbrev pub wider : List LogicalField
wider = field (record { kind = Packed; length = 7; decimals = 2 }) (Converted three_digits 5) false
    ∷ field (characters 8) (Converted (characters 5) 0) false ∷ []

-- three fields of 2, 3 and 1 characters, the last before the first
abbrev pub concatenated : List LogicalField
concatenated = field (characters 3) (Concatenated (piece 5 1 ∷ piece 0 2 ∷ [])) false ∷ field (characters 3) (Copied 2) false ∷ []

abbrev pub three_names : List RecordField
three_names =
    record { name = codes "A"; ty = characters 2; offset = 0; default = text []; text = [] }
    ∷ record { name = codes "B"; ty = characters 3; offset = 2; default = text (codes "B"); text = [] }
    ∷ record { name = codes "C"; ty = characters 1; offset = 5; default = text []; text = [] } ∷ []

-- the number, and then the name from the last to the first
abbrev pub by_number_then_name : KeySpec
by_number_then_name = record { parts = Field three_digits 5 false false ∷ Field (characters 5) 0 true false ∷ []; unique = false; ties = Rising }

-- a logical format that shows the number first
abbrev pub number_then_name : List ViewField
number_then_name = record { ty = three_digits; source = Copied 5 } ∷ record { ty = characters 5; source = Copied 0 } ∷ []

-- the same key, where the number stands first
abbrev pub number_of_logical_then_name : KeySpec
number_of_logical_then_name = record { parts = Field three_digits 0 false false ∷ Field (characters 5) 2 true false ∷ []; unique = false; ties = Rising }
