-- Halving: how many steps there can be.
use Rattle.std.proofs.Common.{◌≡◌, ℕ, suc, ◌+◌, ◌-◌, ◌*◌, ◌^◌, ◌<◌, ◌≤◌, arith, ap, ◌∙◌, inl, inr}
use Rattle.std.proofs.lemmas.Bool.{cases_lt}
use Rattle.std.proofs.Math.Nat.{mul-le-mul_left, pow-suc}
use Rattle.std.proofs.Math.Pow.{pow-lt}
use Rattle.key_pages.specs.StepBound.{IsFewSteps}

-- one step more doubles the power
pow-step : (start steps after : ℕ) → start ≤ steps → after ≡ steps + 1 → 2 ^ (after - start) ≡ 2 ^ (steps - start) * 2
pow-step start steps after begun next =
    let more : after - start ≡ suc (steps - start) = omega arith in
    ap (λ t. 2 ^ t) more ∙ pow-suc 2 (steps - start)

-- half of what is left takes one more step
pub left-half : (count start steps after rest half : ℕ) → start ≤ steps → after ≡ steps + 1 → 2 ^ (steps - start) * rest ≤ count → 2 * half ≤ rest → 2 ^ (after - start) * half ≤ count
left-half count start steps after rest half begun next left halved =
    let doubled = mul-le-mul_left (2 ^ (steps - start)) halved in
    rw (pow-step start steps after begun next) (omega (arith, doubled))

-- a step is taken only where something is left
pub cost-step : (count start steps after rest : ℕ) → start ≤ steps → after ≡ steps + 1 → 2 ^ (steps - start) * rest ≤ count → 1 ≤ rest → 2 ^ (after - start) ≤ 2 * count + 1
cost-step count start steps after rest begun next left some =
    let once = mul-le-mul_left (2 ^ (steps - start)) some in
    rw (pow-step start steps after begun next) (omega (arith, once))

-- a search by halving takes no more steps than the count has digits, and one
halving : (count before after digits : ℕ) → 2 ^ (after - before) ≤ 2 * count + 1 → count < 2 ^ digits → after ≤ before + (digits + 1)
halving count before after digits cost fits =
    elim (cases_lt (suc digits) (after - before)) [
      | inl many ↦ let more = pow-lt many in let step = pow-suc 2 digits in absurd (omega (arith, more, step))
      | inr few ↦ omega arith
    ]

-- two such searches, each of no more than the count
pub IsFewSteps-halving : (count pages page before between after : ℕ) → 2 ^ (between - before) ≤ 2 * pages + 1 → 2 ^ (after - between) ≤ 2 * page + 1 → pages ≤ count → page ≤ count → IsFewSteps count before after
IsFewSteps-halving count pages page before between after cost page_cost within page_within digits fits =
    let first = halving pages before between digits cost (omega arith) in
    let second = halving page between after digits page_cost (omega arith) in
    omega (arith, first, second)

-- the first alone
pub IsFewSteps-first : (count pages before after : ℕ) → 2 ^ (after - before) ≤ 2 * pages + 1 → pages ≤ count → IsFewSteps count before after
IsFewSteps-first count pages before after cost within digits fits = let first = halving pages before after digits cost (omega arith) in omega (arith, first)
