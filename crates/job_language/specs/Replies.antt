-- What a reply leaves in the variables of TO.
use Rattle.std.specs.Prelude.{ℕ, Bool, not, nat_lt, List, [], ◌∷◌, length, slice_set}
use Rattle.field_types.specs.declared.values.Value.{Value}
use Rattle.library_model.specs.declared.replies.Reply.{Reply}
use Rattle.library_model.specs.declared.replies.Reply.TheVariants.{Record}

-- the values of the record that was read; no other reply shows any
abbrev pub shown : Reply → List Value
shown (Record read) = read.values
shown _ = []

-- the record has a field for each variable
abbrev pub has_fields : List ℕ → Reply → Bool
has_fields into reply = not (nat_lt (length (shown reply)) (length into))

-- the first fields are put into the variables
abbrev pub put_into : List ℕ → List Value → List Value → List Value
put_into [] fields values = values
put_into (variable ∷ into) [] values = values
put_into (variable ∷ into) (field ∷ fields) values = put_into into fields (slice_set values variable field)
