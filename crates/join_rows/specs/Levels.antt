-- Which leaf of a tree comes next after a position, and which is the last before it? A level adds one item to a row, and
-- a row that has an item of each level is a leaf. (Our own.)
use Rattle.std.specs.Prelude.{Bool, true, false, not, List, [], ◌∷◌, filter, flat_map, reverse, Option, Some, None, if◌then◌else◌}
use Rattle.std.specs.Option.{option_or}
use Rattle.std.specs.declared.cmp.Ordering.{Ordering}
use Rattle.std.specs.Ordering.{is_lt, is_eq, is_gt}

-- what the first item gives that gives anything
abbrev pub first_of : {A B : Type 0} → (A → Option B) → List A → Option B
first_of give [] = None
first_of give (x ∷ xs) = option_or (give x) (first_of give xs)

-- the leaves below a row, in order
abbrev pub leaves : {R M : Type 0} → (extend : R → M → R) → List (R → List M) → R → List R
leaves extend [] row = row ∷ []
leaves extend (level ∷ levels) row = flat_map (λ m. leaves extend levels (extend row m)) (level row)

-- ---- a position below a row: nowhere in particular, or by the key of each further level

-- what is left of it below an item
abbrev pub below : {K : Type 0} → (K → K → Ordering) → Option (List K) → K → Option (List K)
below compare None key = None
below compare (Some []) key = None
below compare (Some (place ∷ rest)) key = if is_eq (compare key place) then Some rest else None

-- an item below which a leaf may come after it
abbrev pub isnt_before : {K : Type 0} → (K → K → Ordering) → Option (List K) → K → Bool
isnt_before compare None key = true
isnt_before compare (Some []) key = true
isnt_before compare (Some (place ∷ rest)) key = not (is_lt (compare key place))

-- an item below which a leaf may come before it
abbrev pub isnt_after : {K : Type 0} → (K → K → Ordering) → Option (List K) → K → Bool
isnt_after compare None key = true
isnt_after compare (Some []) key = false
isnt_after compare (Some (place ∷ rest)) key = not (is_gt (compare key place))

-- ---- level by level

-- the first leaf after a position
abbrev pub next_leaf : {R M K : Type 0} → (extend : R → M → R) → (key : M → K) → (K → K → Ordering) → List (R → List M) → R → Option (List K) → Option R
next_leaf extend key compare [] row None = Some row
next_leaf extend key compare [] row (Some rest) = None
next_leaf extend key compare (level ∷ levels) row from =
    first_of (λ m. next_leaf extend key compare levels (extend row m) (below compare from (key m))) (filter (λ m. isnt_before compare from (key m)) (level row))

-- the last leaf before it
abbrev pub prior_leaf : {R M K : Type 0} → (extend : R → M → R) → (key : M → K) → (K → K → Ordering) → List (R → List M) → R → Option (List K) → Option R
prior_leaf extend key compare [] row None = Some row
prior_leaf extend key compare [] row (Some []) = None
prior_leaf extend key compare [] row (Some (place ∷ rest)) = Some row
prior_leaf extend key compare (level ∷ levels) row from =
    first_of (λ m. prior_leaf extend key compare levels (extend row m) (below compare from (key m))) (reverse (filter (λ m. isnt_after compare from (key m)) (level row)))
