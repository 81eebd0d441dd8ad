-- Where digits leave a range.
use Rattle.std.proofs.Common.{◌≡◌, ℕ, zero, suc, ◌+◌, ◌-◌, ◌*◌, ◌/◌, ◌^◌, ◌<◌, ◌≤◌, Bool, true, false, ◌&&◌, ◌==◌, nat_lt, nat_le, Option, Some, None, option_map, ◌⊎◌, inl, inr, List, [], ◌∷◌, length, drop, map, get_or, refl, sym, ◌∙◌, ap, arith}
use Rattle.std.specs.List.{list_all}
use Rattle.std.proofs.lemmas.Bool.{and_parts, and_from, eqb-true, eq-eqb, ne_eqb, ltb-true, lt-ltb, le-leb, leb-true, leb-false, ltb-false, and_cases, cases_eq}
use Rattle.std.proofs.lemmas.List.{drop_all}
use Rattle.std.proofs.Math.Bool.{and_assoc}
use Rattle.std.proofs.Math.Nat.{one-le-pow, zero-add, sub-zero, suc-add, pow-suc, pow-zero, add-zero, mul-div_left, pow-le-pow_right, mul-le-mul}
use Rattle.field_values.specs.FieldTypes.{is_between}
use Rattle.field_values.specs.Digits.{number_in, digits_in}
use Rattle.field_values.specs.Bounds.{spells_between}
use Rattle.field_values.specs.FirstBad.{IsFirstBad, TellsFirstBad}
use Rattle.field_values.proofs.DigitLemmas.{number_in-lt, length-digits_in, number_in-digits_in_all, are_digits_in}
use Rattle.field_values.proofs.FirstBadLemmas.{IsFirstBad-head, TellsFirstBad-behind, TellsFirstBad-same}

-- n digits that with a least number before them are a number from low to high
abbrev pub reaches : ℕ → ℕ → ℕ → ℕ → ℕ → List ℕ → Bool
reaches base low high least n ds = (length ds == n) && (list_all (λ d. nat_lt d base) ds && is_between low high (least + number_in base ds))

pub is_between-from : (low high n : ℕ) → low ≤ n → n ≤ high → is_between low high n ≡ true
is_between-from low high n a b = and_from (nat_le low n) (nat_le n high) (le-leb low n a) (le-leb n high b)

pub is_between-parts : (low high n : ℕ) → is_between low high n ≡ true → (low ≤ n) × (n ≤ high)
is_between-parts low high n h =
    let parts : (nat_le low n ≡ true) × (nat_le n high ≡ true) = and_parts (nat_le low n) (nat_le n high) h in
    (leb-true low n parts.0, leb-true n high parts.1)

-- what is told of a number from its first digit on
pub reaches-start : (base low high n : ℕ) (w : List ℕ) → reaches base low high 0 n w ≡ spells_between base low high n w
reaches-start base low high n w = rw (zero-add (number_in base w)) (sym (and_assoc (length w == n) (list_all (λ d. nat_lt d base) w) (is_between low high (number_in base w))))

-- some digits go on, where the least number and the greatest leave room
pub reaches-some : (base low high least n : ℕ) → 0 < base → low ≤ high → least ≤ high → low < least + base ^ n → (w : List ℕ) × (reaches base low high least n w ≡ true)
reaches-some base low high least n pos order below room =
    let some : 0 < base ^ n = one-le-pow n base pos in
    let fits : low - least < base ^ n = omega arith in
    let number : number_in base (digits_in base n (low - least)) ≡ low - least = number_in-digits_in_all base n (low - least) pos fits in (
      digits_in base n (low - least),
      and_from (length (digits_in base n (low - least)) == n) (list_all (λ d. nat_lt d base) (digits_in base n (low - least)) && is_between low high (least + number_in base (digits_in base n (low - least))))
          (eq-eqb (length (digits_in base n (low - least))) n (length-digits_in base n (low - least)))
          (and_from (list_all (λ d. nat_lt d base) (digits_in base n (low - least))) (is_between low high (least + number_in base (digits_in base n (low - least)))) (are_digits_in base n (low - least) pos)
          (rw number (is_between-from low high (least + (low - least)) (omega arith) (omega arith)))),
    )

-- behind a digit
pub reaches-behind : (base low high least n d : ℕ) → d < base → (w : List ℕ) → reaches base low high (least + d * base ^ n) n w ≡ reaches base low high least (suc n) (d ∷ w)
reaches-behind base low high least n d lt w =
    elim (cases_eq (length w) n) [
      | inl same ↦
          (let sum : least + d * base ^ n + number_in base w ≡ least + (d * base ^ length w + number_in base w) = rw same (omega arith) in
          rw (eq-eqb (length w) n same, eq-eqb (suc (length w)) (suc n) (ap suc same), lt-ltb d base lt, sum) refl)
      | inr other ↦ rw (ne_eqb (length w) n other, ne_eqb (suc (length w)) (suc n) (λ e. other (omega arith))) refl
    ]

-- where no digits go on, the digit is bad
pub reaches-bad : (base low high least n d : ℕ) (ds : List ℕ) → 0 < base → low ≤ high → least ≤ high → low < least + base ^ suc n →
    (base ≤ d) ⊎ ((high < least + d * base ^ n) ⊎ (least + d * base ^ n + base ^ n ≤ low)) → IsFirstBad (reaches base low high least (suc n)) (d ∷ ds) 0
reaches-bad base low high least n d ds pos order below room why =
    let some : (w : List ℕ) × (reaches base low high least (suc n) w ≡ true) = reaches-some base low high least (suc n) pos order below room in
    IsFirstBad-head (reaches base low high least (suc n)) d ds some.0 some.1 (λ other h.
    (let parts : ((suc (length other) == suc n) ≡ true) × (((nat_lt d base && list_all (λ e. nat_lt e base) other) && is_between low high (least + (d * base ^ length other + number_in base other))) ≡ true) =
    and_parts (suc (length other) == suc n) ((nat_lt d base && list_all (λ e. nat_lt e base) other) && is_between low high (least + (d * base ^ length other + number_in base other))) h in
    let long : length other ≡ n = (let e : suc (length other) ≡ suc n = eqb-true (suc (length other)) (suc n) parts.0 in omega arith) in
    let inner : ((nat_lt d base && list_all (λ e. nat_lt e base) other) ≡ true) × (is_between low high (least + (d * base ^ length other + number_in base other)) ≡ true) =
    and_parts (nat_lt d base && list_all (λ e. nat_lt e base) other) (is_between low high (least + (d * base ^ length other + number_in base other))) parts.1 in
    let digits : (nat_lt d base ≡ true) × (list_all (λ e. nat_lt e base) other ≡ true) = and_parts (nat_lt d base) (list_all (λ e. nat_lt e base) other) inner.0 in
    let digit : d < base = ltb-true d base digits.0 in
    let rest : number_in base other < base ^ n = rw long at (number_in-lt base other pos digits.1) in
    let range : (low ≤ least + (d * base ^ n + number_in base other)) × (least + (d * base ^ n + number_in base other) ≤ high) = rw long at (is_between-parts low high (least + (d * base ^ length other + number_in base other)) inner.1) in
    elim why [ inl wide ↦ absurd (omega arith) | inr outside ↦ elim outside [ inl over ↦ absurd (omega arith) | inr under ↦ absurd (omega arith) ] ]))

shifted : (at : ℕ) (place : Option ℕ) → option_map (λ k. at + k) (option_map suc place) ≡ option_map (λ k. at + 1 + k) place
shifted at None = refl
shifted at (Some k) = ap Some (let e : at + suc k ≡ at + 1 + k = omega arith in e)

unshifted : (place : Option ℕ) → option_map (λ k. 0 + k) place ≡ place
unshifted None = refl
unshifted (Some k) = ap Some (zero-add k)

-- before the first digit nothing is read
pub tells-start : (base low high n : ℕ) (all : List ℕ) (place : Option ℕ) → TellsFirstBad (reaches base low high 0 (n - 0)) all place → TellsFirstBad (spells_between base low high n) all (option_map (λ k. 0 + k) place)
tells-start base low high n all place h = rw (unshifted place) (TellsFirstBad-same (reaches base low high 0 n) (spells_between base low high n) all place (reaches-start base low high n) (rw sub-zero at h))

-- what is told behind a digit is told before it
pub tells-turn : (test : List ℕ → Bool) (base low high least n at d : ℕ) (all : List ℕ) → at < n → d < base → drop at all ≡ d ∷ drop (at + 1) all →
    ((place : Option ℕ) → TellsFirstBad (reaches base low high least (n - at)) (drop at all) place → TellsFirstBad test all (option_map (λ k. at + k) place)) →
    (place : Option ℕ) → TellsFirstBad (reaches base low high (least + d * base ^ (n - (at + 1))) (n - (at + 1))) (drop (at + 1) all) place → TellsFirstBad test all (option_map (λ k. at + 1 + k) place)
tells-turn test base low high least n at d all lt digit split tells place h =
    let longer : n - at ≡ suc (n - (at + 1)) = omega arith in
    let front : TellsFirstBad (reaches base low high least (suc (n - (at + 1)))) (d ∷ drop (at + 1) all) (option_map suc place) =
    TellsFirstBad-behind (reaches base low high least (suc (n - (at + 1)))) d (drop (at + 1) all) place
    (TellsFirstBad-same (reaches base low high (least + d * base ^ (n - (at + 1))) (n - (at + 1))) (λ w. reaches base low high least (suc (n - (at + 1))) (d ∷ w)) (drop (at + 1) all) place
    (reaches-behind base low high least (n - (at + 1)) d digit) h) in
    rw (← shifted at place) (tells (option_map suc place) (rw (longer, split) front))

-- the digit that is read is bad
pub tells-bad : (test : List ℕ → Bool) (base low high least n at d : ℕ) (all : List ℕ) → at < n → 0 < base → low ≤ high → least ≤ high → low < least + base ^ (n - at) → drop at all ≡ d ∷ drop (at + 1) all →
    (base ≤ d) ⊎ ((high < least + d * base ^ (n - (at + 1))) ⊎ (least + d * base ^ (n - (at + 1)) + base ^ (n - (at + 1)) ≤ low)) →
    ((place : Option ℕ) → TellsFirstBad (reaches base low high least (n - at)) (drop at all) place → TellsFirstBad test all (option_map (λ k. at + k) place)) →
    TellsFirstBad test all (Some at)
tells-bad test base low high least n at d all lt pos order below room split why tells =
    let longer : n - at ≡ suc (n - (at + 1)) = omega arith in
    let room_there : low < least + base ^ suc (n - (at + 1)) = rw longer at room in
    let bad : IsFirstBad (reaches base low high least (suc (n - (at + 1)))) (d ∷ drop (at + 1) all) 0 = reaches-bad base low high least (n - (at + 1)) d (drop (at + 1) all) pos order below room_there why in
    let told : TellsFirstBad test all (Some (at + 0)) = tells (Some 0) (rw (longer, split) bad) in
    rw add-zero at told

-- each digit was read
pub tells-end : (test : List ℕ → Bool) (base low high least n at : ℕ) (all : List ℕ) → n ≤ at → length all ≤ at → least ≤ high → low < least + base ^ (n - at) →
    ((place : Option ℕ) → TellsFirstBad (reaches base low high least (n - at)) (drop at all) place → TellsFirstBad test all (option_map (λ k. at + k) place)) →
    TellsFirstBad test all None
tells-end test base low high least n at all le short below room tells =
    let none : n - at ≡ 0 = omega arith in
    let one : base ^ (n - at) ≡ 1 = rw none (pow-zero base) in
    let range : is_between low high (least + 0) ≡ true = is_between-from low high (least + 0) (omega (arith, one)) (omega arith) in
    tells None (rw (none, drop_all at all short) range)

pub power-less : (base n : ℕ) → 0 < base → 0 < n → base ^ n / base ≡ base ^ (n - 1)
power-less base zero pos some = absurd (omega arith)
power-less base (suc n) pos some = (let e : suc n - 1 ≡ n = omega arith in rw (e, pow-suc base n) (mul-div_left (base ^ n) pos))

pub power-next : (base n at : ℕ) → 0 < base → at < n → base ^ (n - at) / base ≡ base ^ (n - (at + 1))
power-next base n at pos lt = power-less base (n - at) pos (omega arith) ∙ ap (λ k. base ^ k) (let e : n - at - 1 ≡ n - (at + 1) = omega arith in e)

pub drop-map_cons : (f : ℕ → ℕ) (xs : List ℕ) (at : ℕ) → at < length xs → drop at (map f xs) ≡ f (get_or xs at 0) ∷ drop (at + 1) (map f xs)
drop-map_cons f [] at lt = absurd (omega arith)
drop-map_cons f (x ∷ xs) zero lt = refl
drop-map_cons f (x ∷ xs) (suc at) lt = rw (suc-add at 1) (drop-map_cons f xs at (omega arith))

-- what a digit's place value bounds
pub place-fits : (base n at worth d : ℕ) → 2 ≤ base → base ^ n ≤ 2 ^ 64 → at < n → worth ≡ base ^ (n - (at + 1)) → d < 256 → (worth ≤ 2 ^ 64) × (d * worth ≤ 255 * 2 ^ 64)
place-fits base n at worth d two fits lt power byte =
    let le : base ^ (n - (at + 1)) ≤ base ^ n = pow-le-pow_right (let pos : 0 < base = omega arith in pos) (let short : n - (at + 1) ≤ n = omega arith in short) in
    let small : worth ≤ 2 ^ 64 = omega (arith, power) in
    let product : d * worth ≤ 255 * 2 ^ 64 = mul-le-mul (let most : d ≤ 255 = omega arith in most) small in
    (small, product)

-- why a digit does not go on
pub why-not : (least worth low high : ℕ) → (nat_le least high && nat_lt low (least + worth)) ≡ false → (high < least) ⊎ (least + worth ≤ low)
why-not least worth low high h = elim (and_cases (nat_le least high) (nat_lt low (least + worth)) h) [ inl over ↦ inl (leb-false least high over) | inr under ↦ inr (ltb-false low (least + worth) under) ]
