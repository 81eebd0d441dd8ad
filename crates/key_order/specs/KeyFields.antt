-- Which images have a key, how many bytes has it, and which keys can be compared? (DDS for Physical and Logical Files,
-- key field level; that one format may lack a position that another has is this project's own.)
use Rattle.std.specs.Prelude.{◌≡◌, ℕ, ◌+◌, ◌≤◌, ◌<◌, true, List, [], ◌∷◌, length, is_some, All, if◌then◌else◌}
use Rattle.field_types.specs.declared.kinds.FieldType.{FieldType}
use Rattle.field_laws.specs.FieldTypes.{IsFieldType, width, packed_width, is_numeric}
use Rattle.field_laws.specs.FieldBytes.{held}
use Rattle.field_laws.specs.FirstBad.{part}
use Rattle.key_spec.specs.declared.KeyPart.{KeyPart}
use Rattle.key_spec.specs.declared.KeyPart.TheVariants.{Field, Absent}

-- ---- images with a key

-- the field lies within the image, which stands there for a value
pub record HasField (t : FieldType) (offset : ℕ) (image : List ℕ) : Type 0 where
  pub allowed : IsFieldType t
  pub within : offset + width t ≤ length image
  pub there : is_some (held t (part offset (width t) image)) ≡ true

abbrev pub HasPosition : KeyPart → List ℕ → Type 0
HasPosition (Field t offset descend absval) image = HasField t offset image
HasPosition Absent image = Unit {0}

-- each key field lies within the image, which stands there for a value
abbrev pub HasKey : List KeyPart → List ℕ → Type 0
HasKey parts image = All (λ p. HasPosition p image) parts

-- each key field is of a type that a data description can give
abbrev pub IsPosition : KeyPart → Type 0
IsPosition (Field t offset descend absval) = IsFieldType t
IsPosition Absent = Unit {0}

abbrev pub ArePositions : List KeyPart → Type 0
ArePositions parts = All IsPosition parts

abbrev pub AreBytes : List ℕ → Type 0
AreBytes bytes = All (λ b. b < 256) bytes

-- ---- how many bytes

abbrev pub value_width : FieldType → ℕ
value_width t = if is_numeric t.kind then packed_width t.length else width t

abbrev pub position_width : KeyPart → ℕ
position_width (Field t offset descend absval) = 1 + value_width t
position_width Absent = 1

-- the bytes of the key of an image; a given key has no more
abbrev pub key_width : List KeyPart → ℕ
key_width [] = 0
key_width (p ∷ parts) = position_width p + key_width parts

-- ---- keys of several formats

-- where both formats have the position, they have it in one type and direction
abbrev pub MatchesAt : KeyPart → KeyPart → Type 0
MatchesAt (Field t offset descend absval) (Field u place falls counted) = (t ≡ u) × (descend ≡ falls)
MatchesAt (Field t offset descend absval) Absent = Unit {0}
MatchesAt Absent other = Unit {0}

-- the formats agree position by position, as far as both go
abbrev pub Matches : List KeyPart → List KeyPart → Type 0
Matches [] others = Unit {0}
Matches (p ∷ parts) [] = Unit {0}
Matches (p ∷ parts) (other ∷ others) = MatchesAt p other × Matches parts others
