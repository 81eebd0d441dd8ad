-- The variables that a job has declared. (CL reference, DCL.)
use Rattle.std.specs.Prelude.{ℕ, nat_eq, Option, List, position}
use Rattle.std.specs.Cmp.Lexicographic.{pointwise}

-- the number of the variable of this name, from 0: its place among the names
abbrev pub number_in : List (List ℕ) → List ℕ → Option ℕ
number_in variables name = position (pointwise nat_eq name) variables
