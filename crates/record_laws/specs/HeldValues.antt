-- Which values a record holds once it is packed. (Database Programming, adding and updating records.)
use Rattle.std.specs.Prelude.{Option, Some, None, unwrap_or, List, [], ◌∷◌}
use Rattle.field_types.specs.declared.values.Value.{Value}
use Rattle.field_values.specs.FieldBytes.{as_held}
use Rattle.record_fmt.specs.declared.formats.Field.{Field}

-- the values of a new record: the given one or the default of each field, as the field holds it
abbrev pub new_values : List Field → List (Option Value) → List Value
new_values [] given = []
new_values (f ∷ fs) [] = []
new_values (f ∷ fs) (v ∷ vs) = as_held f.ty (unwrap_or v f.default) ∷ new_values fs vs

-- the value of a field that had one
abbrev pub value_after : Field → Option Value → Value → Value
value_after f (Some v) old = as_held f.ty v
value_after f None old = old

-- the values of a changed record: the given one of each field, as the field holds it, or the old one
abbrev pub changed_values : List Field → List (Option Value) → List Value → List Value
changed_values [] given old = []
changed_values (f ∷ fs) [] old = []
changed_values (f ∷ fs) (v ∷ vs) [] = []
changed_values (f ∷ fs) (v ∷ vs) (w ∷ ws) = value_after f v w ∷ changed_values fs vs ws
