-- With which bytes does the key of a record begin that a row is joined to? (Our own.)
use Rattle.std.specs.Prelude.{ℕ, false, List, [], ◌∷◌, ◌++◌, map, Option, Some, None}
use Rattle.std.specs.Option.{option_map}
use Rattle.field_types.specs.declared.values.Value.{Value}
use Rattle.field_values.specs.FieldTypes.{IsFieldType}
use Rattle.key_spec.specs.declared.KeyPart.{KeyPart}
use Rattle.key_spec.specs.declared.KeyPart.TheVariants.{Field}
use Rattle.file_model.specs.declared.joins.JoinPair.{JoinPair}
use Rattle.file_model.specs.KeyOrder.{Ascending}
use Rattle.file_model.specs.Views.{field_value}
use Rattle.access_path.specs.KeyBytes.{position_bytes, key_bytes}
use Rattle.view_rules.specs.Shown.{HasValue}
use Rattle.join_rows.specs.Wanted.{as_key, sought_in}

-- the record shows a value to look for, in a field that may have values of its type
pub record CanBeSought (image : List ℕ) (pair : JoinPair) : Type 0 where
  pub from : HasValue image pair.from
  pub to : IsFieldType pair.to.ty

-- the bytes of the value that is looked for, where the field can hold it
abbrev pub sought_bytes : JoinPair → List ℕ → Option (List ℕ)
sought_bytes pair image = option_map (λ v. position_bytes pair.to.ty.length (Ascending v)) (sought_in pair.to.ty (field_value image pair.from))

abbrev pub with_bytes : List ℕ → Option (List ℕ) → Option (List ℕ)
with_bytes front None = None
with_bytes front (Some bytes) = Some (front ++ bytes)

abbrev pub both_bytes : Option (List ℕ) → Option (List ℕ) → Option (List ℕ)
both_bytes None rest = None
both_bytes (Some bytes) rest = with_bytes bytes rest

-- those of all fields of JFLD
abbrev pub wanted_bytes : List JoinPair → List ℕ → Option (List ℕ)
wanted_bytes [] image = Some []
wanted_bytes (pair ∷ pairs) image = both_bytes (sought_bytes pair image) (wanted_bytes pairs image)

-- the fields of JFLD as positions of a key
abbrev pub joined_part : JoinPair → KeyPart
joined_part pair = Field pair.to.ty 0 false false

abbrev pub joined_parts : List JoinPair → List KeyPart
joined_parts pairs = map joined_part pairs

abbrev pub values_bytes : List JoinPair → List Value → List ℕ
values_bytes pairs values = key_bytes (joined_parts pairs) (as_key values)
