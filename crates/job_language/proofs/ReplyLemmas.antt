-- What a record without fields leaves in the variables.
use Rattle.std.proofs.Common.{◌≡◌, ℕ, List, [], ◌∷◌, length, refl, arith}
use Rattle.field_types.specs.declared.values.Value.{Value}
use Rattle.job_language.specs.Replies.{put_into}

pub put_into-short : (into : List ℕ) (fields values : List Value) → length fields ≡ 0 → put_into into fields values ≡ values
put_into-short [] fields values none = refl
put_into-short (v ∷ into) [] values none = refl
put_into-short (v ∷ into) (f ∷ fields) values none = absurd (omega arith)
