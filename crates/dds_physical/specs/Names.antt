-- Names: of a line, and fields by name.
-- (DDS for Physical and Logical Files, "Name", positions 19 to 28.)
use Rattle.std.specs.Prelude.{ℕ, Bool, false, ◌||◌, nat_eq, List, [], ◌∷◌, Option, Some, None, is_some, if◌then◌else◌}
use lib.Pointwise.{pointwise}
use Rattle.dds_source.specs.declared.specifications.NameEntry.{NameEntry}
use Rattle.dds_source.specs.declared.specifications.NameEntry.TheVariants as names
use Rattle.record_fmt.specs.declared.formats.Field.{Field}

-- the name that stands there
abbrev pub name_of : NameEntry → Option (List ℕ)
name_of names.Blank = None
name_of (names.Named name) = Some name
name_of names.StarNone = None

-- the field of a name
abbrev pub field_named : List ℕ → List Field → Option Field
field_named name [] = None
field_named name (f ∷ fs) = if pointwise nat_eq f.name name then Some f else field_named name fs

-- there is one of that name, if there is a name
abbrev pub is_field : Option (List ℕ) → List Field → Bool
is_field None fields = false
is_field (Some name) fields = is_some (field_named name fields)

-- the name is one of these
abbrev pub is_among : List ℕ → List (List ℕ) → Bool
is_among name [] = false
is_among name (other ∷ others) = pointwise nat_eq other name || is_among name others

abbrev pub is_listed : Option (List ℕ) → List (List ℕ) → Bool
is_listed None names = false
is_listed (Some name) names = is_among name names
