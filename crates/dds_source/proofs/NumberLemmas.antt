-- Numbers of so many digits.
use Rattle.std.proofs.Common.{◌≡◌, ℕ, suc, ◌+◌, ◌-◌, ◌*◌, ◌^◌, ◌<◌, ◌≤◌, Bool, true, List, [], ◌∷◌, ◌++◌, length, drop, get_or, refl, ap, arith}
use Rattle.std.specs.List.{list_all}
use Rattle.std.proofs.lemmas.List.{drop_more}
use Rattle.std.proofs.Math.Nat.{pow-le-pow_right, pow-suc}
use Rattle.text_lines.specs.Decimal.{is_digit}
use Rattle.dds_source.specs.Numbers.{decimal, decimal_after}
use Rattle.std.proofs.Common.{◌==◌, Some}
use Rattle.std.specs.List.{before_first, after_first}
use Rattle.text_lines.below.field_types.specs.declared.values.Dec.{Dec}
use Rattle.dds_source.specs.ArgumentTexts.{is_unsigned, number_of, signed}

-- fewer digits make smaller numbers
pub pow_below : (i n : ℕ) → i ≤ n → 10 ^ i ≤ 10 ^ n
pow_below i n h = pow-le-pow_right (omega arith) h

-- one more digit
pub bound_more : (n d p i : ℕ) → n < 10 ^ (p + i) → d ≤ 9 → n * 10 + d < 10 ^ (p + (i + 1))
bound_more n d p i h k =
    let e : p + (i + 1) ≡ suc (p + i) = omega arith in
    rw (e, pow-suc 10 (p + i)) (omega arith)

digit_and_rest : (c : ℕ) (cs : List ℕ) → list_all is_digit (c ∷ cs) ≡ true → (c ≤ 57) × (list_all is_digit cs ≡ true)
digit_and_rest c cs h = grind arith

-- one more digit is one, and the rest are digits
pub digits_more : (ds : List ℕ) (i : ℕ) → i < length ds → list_all is_digit (drop i ds) ≡ true → (get_or ds i 0 ≤ 57) × (list_all is_digit (drop (i + 1) ds) ≡ true)
digits_more ds i lt h = digit_and_rest (get_or ds i 0) (drop (i + 1) ds) (rw (drop_more ds i 0 lt) at h)

pub decimal_more : (ds : List ℕ) (i n : ℕ) → i < length ds → decimal_after n (drop i ds) ≡ decimal_after (n * 10 + (get_or ds i 0 - 48)) (drop (i + 1) ds)
decimal_more ds i n lt = ap (λ (xs : List ℕ). decimal_after n xs) (drop_more ds i 0 lt)

-- digits behind digits
pub decimal_after-append : (n : ℕ) (xs ys : List ℕ) → decimal_after n (xs ++ ys) ≡ decimal_after (decimal_after n xs) ys
decimal_after-append n [] ys = refl
decimal_after-append n (x ∷ xs) ys = decimal_after-append (n * 10 + (x - 48)) xs ys

-- a literal of digits
pub number_of_is : (negative : Bool) (word : List ℕ) → is_unsigned word ≡ true
    → number_of negative word ≡ Some (let n : Dec = record { units = signed negative (decimal (before_first (λ c. c == 46) word ++ after_first (λ c. c == 46) word)); scale = length (after_first (λ c. c == 46) word) } in n)
number_of_is negative word h = rw h refl
