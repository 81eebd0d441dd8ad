-- What is made of things that may be missing: one after another, and lists of them.
use Rattle.std.specs.Prelude.{Option, Some, None, List, [], ◌∷◌, ◌++◌}

-- what a thing leads to, where it is there
abbrev pub let_some : {A B : Type 0} → Option A → (A → Option B) → Option B
let_some None next = None
let_some (Some thing) next = next thing

-- a thing in front of others, where all are there
abbrev pub onto_others : {A : Type 0} → Option A → Option (List A) → Option (List A)
onto_others None others = None
onto_others (Some first) None = None
onto_others (Some first) (Some others) = Some (first ∷ others)

-- what each of a list gives, where each gives something
abbrev pub each : {A B : Type 0} → (A → Option B) → List A → Option (List B)
each f [] = Some []
each f (x ∷ xs) = onto_others (f x) (each f xs)

-- a list of one or more
abbrev pub not_empty : {A : Type 0} → Option (List A) → Option (List A)
not_empty None = None
not_empty (Some []) = None
not_empty (Some (first ∷ others)) = Some (first ∷ others)

-- things in front of a list, where that is there
abbrev pub with_front : {A : Type 0} → List A → Option (List A) → Option (List A)
with_front front None = None
with_front front (Some others) = Some (front ++ others)
