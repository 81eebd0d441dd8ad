-- Where the fields of a record lie: one behind the other, from its first byte on.
-- (DDS for Physical and Logical Files, record format; Database Programming, record formats.)
use Rattle.std.specs.Prelude.{◌≡◌, ℕ, ◌+◌, ◌≤◌, Bool, true, ◌&&◌, ◌==◌, List, [], ◌∷◌, length}
use Rattle.field_values.specs.FieldTypes.{is_allowed, width}
use Rattle.record_fmt.specs.declared.formats.Field.{Field}

-- the bytes of a record
abbrev pub record_length : List Field → ℕ
record_length [] = 0
record_length (f ∷ fs) = width f.ty + record_length fs

-- whether the fields have types that a data description can give, and lie one behind the other from start on
abbrev pub lies_from : ℕ → List Field → Bool
lies_from start [] = true
lies_from start (f ∷ fs) = (f.offset == start) && is_allowed f.ty.kind f.ty.length f.ty.decimals && lies_from (start + width f.ty) fs

-- the fields of a record: at most 1,000 in 32,766 bytes
pub record IsLaidOut (fields : List Field) : Type 0 where
  pub few : length fields ≤ 1000
  pub narrow : record_length fields ≤ 32766
  pub lies : lies_from 0 fields ≡ true
