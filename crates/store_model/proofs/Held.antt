-- The bytes of areas that are held by number.
use Rattle.std.proofs.Common.{◌≡◌, ℕ, zero, suc, ◌<◌, ◌≤◌, List, [], ◌∷◌, ◌++◌, length, get_or, Vec, inl, inr, refl, sym, ◌∙◌, ap, arith, ◌≢◌, set}
use Rattle.std.proofs.lemmas.Bool.{cases_eq}
use Rattle.std.specs.declared.alloc.Global.{Global}
use Rattle.store_model.specs.Past.{held}

pub held_read : (xs : List (Vec ℕ Global)) (i : ℕ) (v : Vec ℕ Global) → i < length xs → v ≡ get_or xs i v → v.items ≡ held xs i
held_read [] i v within is = absurd (omega arith)
held_read (x ∷ xs) zero v within is = ap (λ (w : Vec ℕ Global). w.items) is
held_read (x ∷ xs) (suc i) v within is = held_read xs i v (omega arith) is

pub held_past : (xs : List (Vec ℕ Global)) (i : ℕ) → length xs ≤ i → held xs i ≡ []
held_past [] i past = refl
held_past (x ∷ xs) zero past = absurd (omega arith)
held_past (x ∷ xs) (suc i) past = held_past xs i (omega arith)

-- one empty area more
pub held-push : (xs : List (Vec ℕ Global)) (v : Vec ℕ Global) (i : ℕ) → v.items ≡ [] → held (xs ++ v ∷ []) i ≡ held xs i
held-push [] v zero empty = empty
held-push [] v (suc i) empty = refl
held-push (x ∷ xs) v zero empty = refl
held-push (x ∷ xs) v (suc i) empty = held-push xs v i empty

pub held-set_same : (xs : List (Vec ℕ Global)) (i : ℕ) (v : Vec ℕ Global) → i < length xs → held (set xs i v) i ≡ v.items
held-set_same [] i v within = absurd (omega arith)
held-set_same (x ∷ xs) zero v within = refl
held-set_same (x ∷ xs) (suc i) v within = held-set_same xs i v (omega arith)

pub held-set_other : (xs : List (Vec ℕ Global)) (i a : ℕ) (v : Vec ℕ Global) → a ≢ i → held (set xs i v) a ≡ held xs a
held-set_other [] i a v apart = refl
held-set_other (x ∷ xs) zero zero v apart = absurd (apart refl)
held-set_other (x ∷ xs) zero (suc a) v apart = refl
held-set_other (x ∷ xs) (suc i) zero v apart = refl
held-set_other (x ∷ xs) (suc i) (suc a) v apart = held-set_other xs i a v (λ e. apart (ap suc e))

-- an area is set to what it has
pub held-set_back : (xs : List (Vec ℕ Global)) (i a : ℕ) (v : Vec ℕ Global) → i < length xs → v.items ≡ held xs i → held (set xs i v) a ≡ held xs a
held-set_back xs i a v within is = elim (cases_eq a i) [
  | inl same ↦ ap (λ (n : ℕ). held (set xs i v) n) same ∙ held-set_same xs i v within ∙ is ∙ ap (λ (n : ℕ). held xs n) (sym same)
  | inr apart ↦ held-set_other xs i a v apart
]
