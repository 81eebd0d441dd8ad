-- What packing begins with, and which value each field gets.
use Rattle.std.specs.Prelude.{◌≡◌, ℕ, ◌+◌, Bool, true, false, Option, Some, None, List, ◌++◌, length, take, drop, map, if◌then◌else◌}
use Rattle.field_types.specs.declared.values.Value.{Value}
use Rattle.field_types.specs.declared.faults.ValueFault.{ValueFault}
use Rattle.field_values.specs.FieldTypes.{width}
use Rattle.field_values.specs.FieldBytes.{written, fault_of}
use Rattle.field_values.specs.FirstBad.{part}
use Rattle.record_fmt.specs.declared.formats.Field.{Field}
use Rattle.record_fmt.specs.declared.packing.Values.{Values}
use Rattle.record_fmt.specs.declared.packing.Values.TheVariants.{All, Given}

-- the values, each of which may be missing
abbrev pub given_of : Values → List (Option Value)
given_of (All values) = map Some values.now
given_of (Given given) = given.now

-- the value that a field gets; none where it keeps its bytes
abbrev pub chosen : Field → Option Value → Bool → Option Value
chosen f (Some v) keeps = Some v
chosen f None true = None
chosen f None false = Some f.default

-- why a field refuses the value that it gets
abbrev pub refused_by : Field → Option Value → Option ValueFault
refused_by f None = None
refused_by f (Some v) = fault_of f.ty v

-- the bytes of the value that a field gets, or those that it keeps
abbrev pub put_bytes : Field → Option Value → List ℕ → List ℕ
put_bytes f None bytes = bytes
put_bytes f (Some v) bytes = written f.ty v

-- a record with what a field gets in its place
abbrev pub put_over : Field → Option Value → List ℕ → List ℕ
put_over f v image = take f.offset image ++ put_bytes f v (part f.offset (width f.ty) image) ++ drop (f.offset + width f.ty) image

-- the old record, where one is kept
abbrev pub kept : Bool → List ℕ → Option (List ℕ)
kept keeps bytes = if keeps then Some bytes else None

-- the old record's bytes, or so many
abbrev pub StartsAs : Option (List ℕ) → ℕ → List ℕ → Type 0
StartsAs (Some old) n bytes = bytes ≡ old
StartsAs None n bytes = length bytes ≡ n
