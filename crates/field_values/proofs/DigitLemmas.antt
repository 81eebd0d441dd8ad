-- What follows of digits, and of the number that they are.
use Rattle.std.proofs.Common.{◌≡◌, ℕ, zero, suc, ◌+◌, ◌*◌, ◌/◌, ◌%◌, ◌^◌, ◌<◌, ◌≤◌, true, nat_lt, List, [], ◌∷◌, ◌++◌, length, take, map, get_or, refl, sym, ◌∙◌, ap, arith, length-append, length-take-le, lit<}
use Rattle.std.proofs.lemmas.List.{length-map, map_more}
use Rattle.std.specs.List.{list_all}
use Rattle.std.proofs.Math.Nat.{pow-suc, pow-zero, mul-le-mul_right, mul-add-div_right, mod-eq_of_lt, div-eq_of_lt, mod-lt, div-add-mod, one-le-pow, mod-one, add-mul-mod_self_left, add-mul-div_right, add-mul-mod_self_right, pow-le-pow_right}
use Rattle.std.proofs.lemmas.Nat.{pow-add}
use Rattle.std.proofs.lemmas.Bool.{ltb-true, lt-ltb, and_parts, and_from}
use Rattle.field_values.specs.Digits.{number_in, digits_in, low_half}

pub number_in-append : (base : ℕ) (xs ys : List ℕ) → number_in base (xs ++ ys) ≡ number_in base xs * base ^ length ys + number_in base ys
number_in-append base [] ys = omega arith
number_in-append base (x ∷ xs) ys =
    let rest : number_in base (xs ++ ys) ≡ number_in base xs * base ^ length ys + number_in base ys = number_in-append base xs ys in
    rw (length-append xs ys, pow-add base (length xs) (length ys), rest) (omega arith)

-- a digit more at the end
pub number_in-more : (base : ℕ) (xs : List ℕ) (d : ℕ) → number_in base (xs ++ d ∷ []) ≡ number_in base xs * base + d
number_in-more base xs d = rw (number_in-append base xs (d ∷ [])) (rw (pow-suc base 0, pow-zero base) (omega arith))

pub number_in-lt : (base : ℕ) (xs : List ℕ) → 0 < base → list_all (λ d. nat_lt d base) xs ≡ true → number_in base xs < base ^ length xs
number_in-lt base [] pos h = rw (pow-zero base) (omega arith)
number_in-lt base (x ∷ xs) pos h =
    let parts : (nat_lt x base ≡ true) × (list_all (λ d. nat_lt d base) xs ≡ true) = and_parts (nat_lt x base) (list_all (λ d. nat_lt d base) xs) h in
    let below : x < base = ltb-true x base parts.0 in
    let rest : number_in base xs < base ^ length xs = number_in-lt base xs pos parts.1 in
    let wide : (x + 1) * base ^ length xs ≤ base * base ^ length xs = mul-le-mul_right (base ^ length xs) (let le : x + 1 ≤ base = omega arith in le) in
    rw (pow-suc base (length xs)) (omega arith)

-- half bytes are at most 15
pub number_in-halves : (xs : List ℕ) → number_in 10 (map low_half xs) + 2 ≤ 2 * 10 ^ length xs
number_in-halves [] = omega arith
number_in-halves (x ∷ xs) =
    let rest : number_in 10 (map low_half xs) + 2 ≤ 2 * 10 ^ length xs = number_in-halves xs in
    let half : x % 16 ≤ 15 = omega arith in
    let wide : (x % 16) * 10 ^ length xs ≤ 15 * 10 ^ length xs = mul-le-mul_right (10 ^ length xs) half in
    (let same : (x % 16) * 10 ^ length (map low_half xs) ≡ (x % 16) * 10 ^ length xs = ap (λ k. x % 16 * 10 ^ k) (length-map xs low_half) in rw (pow-suc 10 (length xs)) (omega arith))

pub number_in-halves_take : (xs : List ℕ) (i : ℕ) → length xs ≤ 31 → i ≤ length xs → number_in 10 (map low_half (take i xs)) < 20000000000000000000000000000000
number_in-halves_take xs i few le =
    let all : number_in 10 (map low_half (take i xs)) + 2 ≤ 2 * 10 ^ length (take i xs) = number_in-halves (take i xs) in
    let short : length (take i xs) ≤ 31 = rw (length-take-le i xs le) (omega arith) in
    let power : 10 ^ length (take i xs) ≤ 10 ^ 31 = pow-le-pow_right (lit< tt) short in
    omega arith

-- one digit more of those that are read
pub number_in-halves_more : (xs : List ℕ) (i : ℕ) → i < length xs → number_in 10 (map low_half (take (i + 1) xs)) ≡ number_in 10 (map low_half (take i xs)) * 10 + low_half (get_or xs i 0)
number_in-halves_more xs i lt = ap (number_in 10) (map_more low_half xs i 0 lt) ∙ number_in-more 10 (map low_half (take i xs)) (low_half (get_or xs i 0))

pub length-digits_in : (base n number : ℕ) → length (digits_in base n number) ≡ n
length-digits_in base zero number = refl
length-digits_in base (suc n) number = ap suc (length-digits_in base n number)

-- a remainder by a product, in two steps
pub mod-product : (n p b : ℕ) → 0 < p → 0 < b → n % (p * b) ≡ n / p % b * p + n % p
mod-product n p b some more =
    let first : p * (n / p) + n % p ≡ n = div-add-mod n p in
    let second : b * (n / p / b) + n / p % b ≡ n / p = div-add-mod (n / p) b in
    let low : n % p < p = mod-lt n some in
    let high : n / p % b < b = mod-lt (n / p) more in
    let wide : (n / p % b + 1) * p ≤ b * p = mul-le-mul_right p (let le : n / p % b + 1 ≤ b = omega arith in le) in
    let fits : n / p % b * p + n % p < p * b = omega arith in
    let spread : p * (b * (n / p / b) + n / p % b) ≡ p * (n / p) = ap (λ k. p * k) second in
    let split : n ≡ (n / p % b * p + n % p) + (p * b) * (n / p / b) = omega (arith, first, spread) in
    let away : ((n / p % b * p + n % p) + (p * b) * (n / p / b)) % (p * b) ≡ (n / p % b * p + n % p) % (p * b) = add-mul-mod_self_left (n / p % b * p + n % p) (p * b) (n / p / b) in
    ap (λ k. k % (p * b)) split ∙ away ∙ mod-eq_of_lt fits

-- the digits of a number are its remainder
pub number_in-digits_in : (base n number : ℕ) → 0 < base → number_in base (digits_in base n number) ≡ number % base ^ n
number_in-digits_in base zero number pos = rw (pow-zero base) (sym (mod-one number))
number_in-digits_in base (suc n) number pos =
    let rest : number_in base (digits_in base n number) ≡ number % base ^ n = number_in-digits_in base n number pos in
    let some : 0 < base ^ n = one-le-pow n base pos in
    rw (length-digits_in base n number, rest, pow-suc base n) (sym (mod-product number (base ^ n) base some pos))

-- where the number has no more digits
pub number_in-digits_in_all : (base n number : ℕ) → 0 < base → number < base ^ n → number_in base (digits_in base n number) ≡ number
number_in-digits_in_all base n number pos fits = number_in-digits_in base n number pos ∙ mod-eq_of_lt fits

-- higher digits do not change the lower ones
pub digits_in-above : (base n high low : ℕ) → 0 < base → digits_in base n (high * base ^ n + low) ≡ digits_in base n low
digits_in-above base zero high low pos = refl
digits_in-above base (suc n) high low pos =
    let some : 0 < base ^ n = one-le-pow n base pos in
    let moved : high * base ^ suc n + low ≡ low + (high * base) * base ^ n = rw (pow-suc base n) (omega arith) in
    let rest : digits_in base n ((high * base) * base ^ n + low) ≡ digits_in base n low = digits_in-above base n (high * base) low pos in
    let turned : digits_in base n (low + (high * base) * base ^ n) ≡ digits_in base n low = ap (digits_in base n) (let e : low + (high * base) * base ^ n ≡ (high * base) * base ^ n + low = omega arith in e) ∙ rest in
    let head : (low + (high * base) * base ^ n) / base ^ n % base ≡ low / base ^ n % base =
    ap (λ k. k % base) (add-mul-div_right low (high * base) some) ∙ add-mul-mod_self_right (low / base ^ n) high base in
    rw moved (rw (head, turned) refl)

-- the digits of the number that digits are
pub digits_in-number_in : (base : ℕ) (xs : List ℕ) → 0 < base → list_all (λ d. nat_lt d base) xs ≡ true → digits_in base (length xs) (number_in base xs) ≡ xs
digits_in-number_in base [] pos h = refl
digits_in-number_in base (x ∷ xs) pos h =
    let parts : (nat_lt x base ≡ true) × (list_all (λ d. nat_lt d base) xs ≡ true) = and_parts (nat_lt x base) (list_all (λ d. nat_lt d base) xs) h in
    let below : x < base = ltb-true x base parts.0 in
    let some : 0 < base ^ length xs = one-le-pow (length xs) base pos in
    let rest : number_in base xs < base ^ length xs = number_in-lt base xs pos parts.1 in
    let front : (x * base ^ length xs + number_in base xs) / base ^ length xs ≡ x = mul-add-div_right some x (number_in base xs) ∙ (let none : number_in base xs / base ^ length xs ≡ 0 = div-eq_of_lt rest in omega arith) in
    let head : (x * base ^ length xs + number_in base xs) / base ^ length xs % base ≡ x = ap (λ k. k % base) front ∙ mod-eq_of_lt below in
    let tail : digits_in base (length xs) (x * base ^ length xs + number_in base xs) ≡ xs = digits_in-above base (length xs) x (number_in base xs) pos ∙ digits_in-number_in base xs pos parts.1 in
    rw (head, tail) refl

pub are_digits_in : (base n number : ℕ) → 0 < base → list_all (λ d. nat_lt d base) (digits_in base n number) ≡ true
are_digits_in base zero number pos = refl
are_digits_in base (suc n) number pos = and_from (nat_lt (number / base ^ n % base) base) (list_all (λ d. nat_lt d base) (digits_in base n number)) (lt-ltb (number / base ^ n % base) base (mod-lt (number / base ^ n) pos)) (are_digits_in base n number pos)
