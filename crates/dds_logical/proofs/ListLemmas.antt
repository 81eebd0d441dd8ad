-- Lists joined and cut.
use Rattle.std.proofs.Common.{◌≡◌, ◌++◌, ◌-◌, ◌==◌, ℕ, suc, zero, false, List, ◌∷◌, drop, ap, arith}
use Rattle.std.proofs.lemmas.List.{append_assoc}

pub joined : {X : Type 0} (xs ys zs : List X) → xs ++ ys ++ zs ≡ xs ++ (ys ++ zs)
joined xs ys zs = append_assoc xs ys zs

pub drop_less : {X : Type 0} (n : ℕ) (x : X) (xs : List X) → (n == 0) ≡ false → drop (n - 1) xs ≡ drop n (x ∷ xs)
drop_less zero x xs h = absurd cc
drop_less (suc n) x xs h = let e : suc n - 1 ≡ n = omega arith in ap (λ (m : ℕ). drop m xs) e
