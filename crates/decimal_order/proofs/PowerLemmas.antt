-- The powers of ten that fit a type, and products with them.
use Rattle.std.proofs.Common.{◌≡◌, ℕ, zero, suc, ◌+◌, ◌*◌, ◌^◌, ◌<◌, ◌≤◌, ◌==◌, Bool, true, false, List, [], ◌∷◌, get_or, refl, ◌∙◌, ap, arith, lit<}
use Rattle.std.specs.Option.{SomeIff}
use Rattle.std.specs.Bool.{then_some}
use Rattle.std.proofs.lemmas.Bool.{eqb-true, eqb-false}
use Rattle.std.proofs.Math.Nat.{pow-le-pow_right}

-- n powers of ten, the first of which is this one
abbrev pub powers : ℕ → ℕ → List ℕ
powers first zero = []
powers first (suc n) = 10 ^ first ∷ powers (suc first) n

pub get_or-powers : (first n i d : ℕ) → i < n → get_or (powers first n) i d ≡ 10 ^ (first + i)
get_or-powers first zero i d lt = absurd (omega arith)
get_or-powers first (suc n) zero d lt = ap (λ (k : ℕ). 10 ^ k) (let e : first ≡ first + 0 = omega arith in e)
get_or-powers first (suc n) (suc i) d lt = get_or-powers (suc first) n i d (omega arith) ∙ ap (λ (k : ℕ). 10 ^ k) (let e : suc first + i ≡ first + suc i = omega arith in e)

pub fits : (n : ℕ) → n < 39 → 10 ^ n < 2 ^ 128
fits n lt =
    let wide : 10 ^ n ≤ 10 ^ 38 = pow-le-pow_right (lit< tt) (let le : n ≤ 38 = omega arith in le) in
    let top : 10 ^ 38 < 2 ^ 128 = lit< tt in
    omega arith

pub fits-not : (n : ℕ) → 39 ≤ n → 10 ^ n < 2 ^ 128 → ⊥
fits-not n le small =
    let wide : 10 ^ 39 ≤ 10 ^ n = pow-le-pow_right (lit< tt) le in
    let top : 2 ^ 128 < 10 ^ 39 = lit< tt in
    omega arith

-- a power too great for its type leaves the type with every magnitude but 0
pub SomeIff-great_power : (m p : ℕ) (b : Bool) → (m == 0) ≡ b → (p < 2 ^ 128 → ⊥) → SomeIff (then_some b 0) (m * p < 2 ^ 128) (m * p)
SomeIff-great_power m p true e large =
    let none : m ≡ 0 = eqb-true m 0 e in
    let product : 0 * p ≡ 0 = omega arith in
    rw (none, product) (lit< tt, refl)
SomeIff-great_power zero p false e large = λ small. eqb-false 0 0 e refl
SomeIff-great_power (suc m) p false e large = λ small. large (omega arith)
