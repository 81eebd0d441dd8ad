-- What is a list in an order?
use Rattle.std.specs.Prelude.{List, [], ◌∷◌, if◌then◌else◌}
use Rattle.std.specs.declared.cmp.Ordering.{Ordering}
use Rattle.std.specs.Ordering.{is_lt}

-- an item put before the first that comes after it
abbrev pub put_in_order : {A : Type 0} → (A → A → Ordering) → A → List A → List A
put_in_order compare item [] = item ∷ []
put_in_order compare item (x ∷ xs) = if is_lt (compare item x) then item ∷ x ∷ xs else x ∷ put_in_order compare item xs

-- the items in order
abbrev pub in_order : {A : Type 0} → (A → A → Ordering) → List A → List A
in_order compare [] = []
in_order compare (x ∷ xs) = put_in_order compare x (in_order compare xs)
