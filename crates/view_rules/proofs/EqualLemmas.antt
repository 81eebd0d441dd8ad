-- A value is equal to the same value as a field holds it.
use Rattle.std.proofs.Common.{◌≡◌, ℕ, zero, suc, ◌+◌, ◌-◌, ◌*◌, ◌/◌, ◌^◌, ◌<◌, Bool, true, false, None, ℤ, pos, negsuc, ◌*ℤ◌, unsigned_abs}
use Rattle.std.proofs.Common.{List, [], ◌∷◌, ◌++◌, length, replicate, refl, sym, ◌∙◌, ap, append_assoc, append-nil, arith}
use Rattle.std.proofs.lemmas.List.{length-append, length-replicate, replicate-append-replicate}
use Rattle.std.specs.declared.cmp.Ordering.{Ordering}
use Rattle.std.specs.declared.cmp.Ordering.TheVariants.{Equal}
use Rattle.std.specs.Ordering.{nat_cmp, int_cmp, ordering_then}
use Rattle.std.specs.Cmp.{nat_cmp_is}
use Rattle.std.specs.Cmp.Lexicographic.{slice_cmp}
use Rattle.field_types.specs.declared.kinds.FieldType.{FieldType}
use Rattle.field_types.specs.declared.values.Dec.{Dec}
use Rattle.field_types.specs.declared.values.Value.{Value}
use Rattle.field_types.specs.declared.values.Value.TheVariants.{Chars, Number}
use Rattle.field_values.specs.Digits.{signed, is_negative}
use Rattle.field_values.specs.FieldTypes.{width}
use Rattle.field_values.specs.FieldBytes.{as_held, fault_of, filled, units_at}
use Rattle.field_values.proofs.ScaleLemmas.{unsigned_abs-signed}
use Rattle.field_laws.proofs.AcceptedLemmas.{held-number}
use Rattle.decimal_order.specs.DecimalOrder.{compare_numbers, is_below_zero}
use Rattle.decimal_order.proofs.OrderLemmas.{some-power, both_from_zero, both_below_zero, compare_numbers-total}
use Rattle.file_model.specs.Selection.{compare_filled}

nat_cmp-same : (n : ℕ) → nat_cmp n n ≡ Equal
nat_cmp-same n = sym (nat_cmp_is n n Equal refl)

-- ---- texts

cmp-same : (xs : List ℕ) → slice_cmp nat_cmp xs xs ≡ Equal
cmp-same [] = refl
cmp-same (x ∷ xs) = ap (λ (o : Ordering). ordering_then o (slice_cmp nat_cmp xs xs)) (nat_cmp-same x) ∙ cmp-same xs

filled-behind : (w k : ℕ) (xs : List ℕ) → w ≡ length xs + k → filled w xs ≡ xs ++ replicate k 0x40
filled-behind w k xs e = let left : w - length xs ≡ k = omega (arith, e) in ap (λ (n : ℕ). xs ++ replicate n 0x40) left

-- blanks behind a text make no difference
blanks-equal : (k : ℕ) (xs : List ℕ) → compare_filled (Chars (xs ++ replicate k 0x40)) (Chars xs) ≡ Equal
blanks-equal k xs =
    let ys : List ℕ = xs ++ replicate k 0x40 in
    let blanks : length {A = ℕ} (replicate k 0x40) ≡ k = length-replicate k 0x40 in
    let all : length ys ≡ length xs + length {A = ℕ} (replicate k 0x40) = length-append xs (replicate k 0x40) in
    let left : length xs - length ys ≡ 0 = omega (arith, all) in
    let first : filled (length xs) ys ≡ ys = ap (λ (n : ℕ). ys ++ replicate n 0x40) left ∙ append-nil ys in
    let second : filled (length ys) xs ≡ ys = filled-behind (length ys) k xs (omega (arith, all, blanks)) in
    ap (λ (w : List ℕ). slice_cmp nat_cmp w (filled (length ys) xs)) first ∙ ap (λ (w : List ℕ). slice_cmp nat_cmp ys w) second ∙ cmp-same ys

texts-equal : (m n : ℕ) (xs : List ℕ) → compare_filled (Chars (filled m (filled n xs))) (Chars xs) ≡ Equal
texts-equal m n xs =
    let j : ℕ = n - length xs in
    let k : ℕ = m - length (filled n xs) in
    let whole : filled m (filled n xs) ≡ xs ++ replicate (j + k) 0x40 =
    append_assoc xs (replicate j 0x40) (replicate k 0x40) ∙ ap (λ (w : List ℕ). xs ++ w) (replicate-append-replicate j k 0x40) in
    ap (λ (w : List ℕ). compare_filled (Chars w) (Chars xs)) whole ∙ blanks-equal (j + k) xs

-- ---- numbers

nothing-times : (m p q : ℕ) → 0 < q → 0 * p ≡ suc m * q → ⊥
nothing-times m p q some e = omega (arith, e, some)

same-signs : (x y : ℤ) (p q : ℕ) (b : Bool) → is_below_zero x ≡ b → is_below_zero y ≡ b → unsigned_abs x * p ≡ unsigned_abs y * q → int_cmp (x *ℤ pos p) (y *ℤ pos q) ≡ Equal
same-signs x y p q true h g e = both_below_zero x y p q h g ∙ ap (λ (n : ℕ). nat_cmp (unsigned_abs y * q) n) e ∙ nat_cmp-same (unsigned_abs y * q)
same-signs x y p q false h g e = both_from_zero x y p q h g ∙ ap (λ (n : ℕ). nat_cmp n (unsigned_abs y * q)) e ∙ nat_cmp-same (unsigned_abs y * q)

-- a magnitude with the sign of another number that is 0 only where it is
signed-sign : (y : ℤ) (k p q : ℕ) → 0 < q → k * p ≡ unsigned_abs y * q → is_below_zero (signed (is_negative y) k) ≡ is_below_zero y
signed-sign (pos m) k p q some e = refl
signed-sign (negsuc m) zero p q some e = absurd (nothing-times m p q some e)
signed-sign (negsuc m) (suc k) p q some e = refl

number-held : (t : FieldType) (n : Dec) → fault_of t (Number n) ≡ None → compare_numbers (record { units = units_at t.decimals n; scale = t.decimals }) n ≡ Equal
unfolding compare_numbers
number-held t n fits =
    let k : ℕ = unsigned_abs n.units * 10 ^ t.decimals / 10 ^ n.scale in
    let same : unsigned_abs (units_at t.decimals n) * 10 ^ n.scale ≡ unsigned_abs n.units * 10 ^ t.decimals = held-number t n fits in
    let scaled : k * 10 ^ n.scale ≡ unsigned_abs n.units * 10 ^ t.decimals = ap (λ (m : ℕ). m * 10 ^ n.scale) (sym (unsigned_abs-signed (is_negative n.units) k)) ∙ same in
    same-signs (units_at t.decimals n) n.units (10 ^ n.scale) (10 ^ t.decimals) (is_below_zero n.units)
    (signed-sign n.units k (10 ^ n.scale) (10 ^ t.decimals) (some-power t.decimals) scaled) refl same

-- a number fits the field
abbrev pub NumberFits : FieldType → Value → Type 0
NumberFits t (Chars text) = Unit {0}
NumberFits t (Number n) = fault_of t (Number n) ≡ None

pub number-fits : (t : FieldType) (v : Value) → fault_of t v ≡ None → NumberFits t v
number-fits t (Chars text) fits = tt
number-fits t (Number n) fits = fits

pub text-passes : (t s : FieldType) (text : List ℕ) → NumberFits t (as_held s (Chars text))
unfolding as_held
text-passes t s text = tt

-- a value that is held by a field, and then by another one, is equal to it
pub held-equal : (t s : FieldType) (v : Value) → fault_of s v ≡ None → NumberFits t (as_held s v) → compare_filled (as_held t (as_held s v)) v ≡ Equal
unfolding as_held
held-equal t s (Chars text) fits also = texts-equal (width t) (width s) text
held-equal t s (Number n) fits also =
    let m : Dec = record { units = units_at s.decimals n; scale = s.decimals } in
    compare_numbers-total.congr (record { units = units_at t.decimals m; scale = t.decimals }) m n (number-held t m also) ∙ number-held s n fits
