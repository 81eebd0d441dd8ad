-- Things under names of their own, in the order in which they came. (Our own.)
use Rattle.std.specs.Prelude.{ℕ, Bool, nat_eq, Option, List}
use Rattle.std.specs.Cmp.Lexicographic.{pointwise}
use Rattle.std.specs.Map.{lookup}

-- whether two names are the same
abbrev pub same_name : List ℕ → List ℕ → Bool
same_name a b = pointwise nat_eq a b

abbrev pub Named : Type 0 → Type 0
Named A = List (List ℕ × A)

-- what has this name
abbrev pub named : {A : Type 0} → List ℕ → Named A → Option A
named name things = lookup (same_name name) things
