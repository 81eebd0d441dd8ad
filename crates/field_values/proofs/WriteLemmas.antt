-- Digits that are written from the last byte to the first.
use Rattle.std.proofs.Common.{◌≡◌, ℕ, zero, suc, ◌+◌, ◌-◌, ◌*◌, ◌/◌, ◌%◌, ◌^◌, ◌<◌, ◌≤◌, List, [], ◌∷◌, ◌++◌, length, take, set, refl, sym, ◌∙◌, ap, arith}
use Rattle.std.proofs.Math.Nat.{pow-suc, div-div-eq-div-mul}
use Rattle.field_values.specs.Digits.{digits_in}
use Rattle.field_values.specs.Zoned.{zoned_bytes}
use Rattle.field_values.specs.Packed.{packed_bytes}

-- one byte more is written before those that are
pub set-before : (old rest : List ℕ) (at v : ℕ) → at < length old → set (take (suc at) old ++ rest) at v ≡ take at old ++ v ∷ rest
set-before [] rest at v lt = absurd (omega arith)
set-before (x ∷ xs) rest zero v lt = refl
set-before (x ∷ xs) rest (suc at) v lt = ap (λ w. x ∷ w) (set-before xs rest at v (omega arith))

zoned-more : (n d sign zone m : ℕ) → (n ≡ 0 → zone ≡ sign) → (0 < n → zone ≡ 15) → zoned_bytes (d ∷ digits_in 10 n m) sign ≡ (16 * zone + d) ∷ zoned_bytes (digits_in 10 n m) sign
zoned-more zero d sign zone m first later = rw (first refl) refl
zoned-more (suc n) d sign zone m first later =
    let wide : 240 + d ≡ 16 * zone + d = (let e : zone ≡ 15 = later (omega arith) in omega arith) in
    rw wide refl

-- a digit more of a zoned number
pub zoned_bytes-before : (old : List ℕ) (at n m sign zone : ℕ) → at < length old → (n ≡ 0 → zone ≡ sign) → (0 < n → zone ≡ 15) →
    set (take (suc at) old ++ zoned_bytes (digits_in 10 n m) sign) at (16 * zone + m / 10 ^ n % 10) ≡ take at old ++ zoned_bytes (digits_in 10 (suc n) m) sign
zoned_bytes-before old at n m sign zone lt first later =
    set-before old (zoned_bytes (digits_in 10 n m) sign) at (16 * zone + m / 10 ^ n % 10) lt
    ∙ ap (λ w. take at old ++ w) (sym (zoned-more n (m / 10 ^ n % 10) sign zone m first later))

pub digit-less : (m n : ℕ) → m / 10 ^ n / 10 ≡ m / 10 ^ suc n
digit-less m n = div-div-eq-div-mul m (10 ^ n) 10 ∙ ap (λ k. m / k) (sym (pow-suc 10 n))

pub digits-less : (m n : ℕ) → m / 10 ^ n / 100 ≡ m / 10 ^ suc (suc n)
digits-less m n =
    let wide : 10 ^ n * 100 ≡ 10 ^ suc (suc n) = rw (pow-suc 10 (suc n), pow-suc 10 n) (omega arith) in
    div-div-eq-div-mul m (10 ^ n) 100 ∙ ap (λ k. m / k) wide

-- two digits more of a packed number
pub packed_bytes-before : (old : List ℕ) (at n m sign : ℕ) → at < length old →
    set (take (suc at) old ++ packed_bytes (digits_in 10 n m) sign) at (16 * (m / 10 ^ n / 10 % 10) + m / 10 ^ n % 10) ≡ take at old ++ packed_bytes (digits_in 10 (suc (suc n)) m) sign
packed_bytes-before old at n m sign lt =
    rw (digit-less m n) (set-before old (packed_bytes (digits_in 10 n m) sign) at (16 * (m / 10 ^ suc n % 10) + m / 10 ^ n % 10) lt)

-- one turn of the loop that writes a zoned number: the byte
pub zoned-turn : (old into : List ℕ) (at rest zone m sign : ℕ) → 0 < at → at ≤ length old →
    into ≡ take at old ++ zoned_bytes (digits_in 10 (length old - at) m) sign → rest ≡ m / 10 ^ (length old - at) →
    (at ≡ length old → zone ≡ sign) → (at < length old → zone ≡ 15) →
    set into (at - 1) (16 * zone + rest % 10) ≡ take (at - 1) old ++ zoned_bytes (digits_in 10 (length old - (at - 1)) m) sign
zoned-turn old into zero rest zone m sign some le there left first later = absurd (omega arith)
zoned-turn old into (suc at) rest zone m sign some le there left first later =
    let less : suc at - 1 ≡ at = omega arith in
    let longer : length old - at ≡ suc (length old - suc at) = omega arith in
    rw (less, longer, there, left)
    (zoned_bytes-before old at (length old - suc at) m sign zone (omega arith) (λ e. first (omega arith)) (λ lt. later (omega arith)))

-- the number that is left
pub zoned-left : (n at rest m : ℕ) → 0 < at → at ≤ n → rest ≡ m / 10 ^ (n - at) → rest / 10 ≡ m / 10 ^ (n - (at - 1))
zoned-left n at rest m some le left =
    let longer : n - (at - 1) ≡ suc (n - at) = omega arith in
    rw (longer, left) (digit-less m (n - at))

-- one turn of the loop that writes a packed number
pub packed-turn : (old into : List ℕ) (at rest m sign : ℕ) → 0 < at → at < length old →
    into ≡ take at old ++ packed_bytes (digits_in 10 (2 * (length old - at) - 1) m) sign → rest ≡ m / 10 ^ (2 * (length old - at) - 1) →
    set into (at - 1) (16 * (rest / 10 % 10) + rest % 10) ≡ take (at - 1) old ++ packed_bytes (digits_in 10 (2 * (length old - (at - 1)) - 1) m) sign
packed-turn old into zero rest m sign some le there left = absurd (omega arith)
packed-turn old into (suc at) rest m sign some le there left =
    let less : suc at - 1 ≡ at = omega arith in
    let longer : 2 * (length old - at) - 1 ≡ suc (suc (2 * (length old - suc at) - 1)) = omega arith in
    rw (less, longer, there, left) (packed_bytes-before old at (2 * (length old - suc at) - 1) m sign (omega arith))

pub packed-left : (n at rest m : ℕ) → 0 < at → at < n → rest ≡ m / 10 ^ (2 * (n - at) - 1) → rest / 100 ≡ m / 10 ^ (2 * (n - (at - 1)) - 1)
packed-left n at rest m some le left =
    let longer : 2 * (n - (at - 1)) - 1 ≡ suc (suc (2 * (n - at) - 1)) = omega arith in
    rw (longer, left) (digits-less m (2 * (n - at) - 1))
