-- Digits and signs: which number a list of digits is, and which half bytes are a sign.
-- (DDS for Physical and Logical Files, "Data type"; the zones and signs of zoned and packed decimal.)
use Rattle.std.specs.Prelude.{ℕ, zero, suc, ◌+◌, ◌*◌, ◌/◌, ◌%◌, ◌^◌, Bool, ◌||◌, ◌&&◌, ◌==◌, nat_lt, ℤ, pos, negsuc, neg_ℤ, true, false, List, [], ◌∷◌, length, if◌then◌else◌}

-- the number that digits of a base are, the highest first
abbrev pub number_in : ℕ → List ℕ → ℕ
number_in base [] = 0
number_in base (d ∷ ds) = d * base ^ length ds + number_in base ds

-- the lowest n digits of a number, the highest first
abbrev pub digits_in : ℕ → ℕ → ℕ → List ℕ
digits_in base zero number = []
digits_in base (suc n) number = number / base ^ n % base ∷ digits_in base n number

abbrev pub is_digit : ℕ → Bool
is_digit d = nat_lt d 10

abbrev pub high_half : ℕ → ℕ
high_half byte = byte / 16

abbrev pub low_half : ℕ → ℕ
low_half byte = byte % 16

-- B and D
abbrev pub is_minus : ℕ → Bool
is_minus sign = (sign == 11) || (sign == 13)

-- A, C, E and F
abbrev pub is_plus : ℕ → Bool
is_plus sign = (sign == 10) || (sign == 12) || (sign == 14) || (sign == 15)

abbrev pub is_sign : ℕ → Bool
is_sign sign = is_plus sign || is_minus sign

-- the sign that is written
abbrev pub sign_of : Bool → ℕ
sign_of negative = if negative then 13 else 15

abbrev pub signed : Bool → ℕ → ℤ
signed negative magnitude = if negative then neg_ℤ (pos magnitude) else pos magnitude

abbrev pub is_negative : ℤ → Bool
is_negative (pos n) = false
is_negative (negsuc n) = true

-- the last byte of a field
abbrev pub last_byte : List ℕ → ℕ
last_byte [] = 0
last_byte (b ∷ []) = b
last_byte (b ∷ c ∷ bs) = last_byte (c ∷ bs)

-- each byte passes the test, and the last one another
abbrev pub ends_pass : (ℕ → Bool) → (ℕ → Bool) → List ℕ → Bool
ends_pass test final [] = false
ends_pass test final (b ∷ []) = final b
ends_pass test final (b ∷ c ∷ bs) = test b && ends_pass test final (c ∷ bs)
