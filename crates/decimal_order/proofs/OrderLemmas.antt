-- What follows of the order of decimal numbers: by magnitudes, and that it is total.
use Rattle.std.proofs.Common.{◌≡◌, ℕ, zero, suc, ◌+◌, ◌-◌, ◌*◌, ◌^◌, ◌<◌, ◌≤◌, true, false, ℤ, pos, negsuc, neg_ℤ, unsigned_abs, refl, sym, ◌∙◌, ap, subst, arith, lit<}
use Rattle.std.specs.Prelude.{◌*ℤ◌, ◌<ℤ◌, ◌↔◌}
use Rattle.std.specs.declared.cmp.Ordering.{Ordering}
use Rattle.std.specs.declared.cmp.Ordering.TheVariants.{Less, Equal, Greater}
use Rattle.std.specs.Ordering.{MatchOrdering, int_cmp, nat_cmp}
use Rattle.std.specs.Cmp.{IsTotalOrder, int_cmp_is, nat_cmp_is}
use Rattle.std.proofs.lemmas.Cmp.{ranked, int_ranked, int_cmp_total}
use Rattle.std.proofs.lemmas.Int.{ints}
use Rattle.std.proofs.Math.IntN.{pos-*ℤ-pos, negsuc-*ℤ-pos}
use Rattle.std.proofs.Math.Nat.{one-le-pow, mul_assoc, mul_comm, mul-lt-mul_of_pos_right}
use Rattle.std.proofs.lemmas.Nat.{pow-add}
use Rattle.field_types.specs.declared.values.Dec.{Dec}
use Rattle.decimal_order.specs.DecimalOrder.{units_with, compare_numbers, HaveOneValue, is_below_zero}

pub some-power : (n : ℕ) → 0 < 10 ^ n
some-power n = one-le-pow n 10 (lit< tt)

-- each outcome means more
match-map : {P Q R P' Q' R' : Type 0} (o : Ordering) → (P → P') → (Q → Q') → (R → R') → MatchOrdering o P Q R → MatchOrdering o P' Q' R'
match-map Less p q r h = p h
match-map Equal p q r h = q h
match-map Greater p q r h = r h

pub int_cmp-pos : (x y : ℕ) → int_cmp (pos x) (pos y) ≡ nat_cmp x y
int_cmp-pos x y =
    sym (int_cmp_is (pos x) (pos y) (nat_cmp x y)
    (match-map (nat_cmp x y) (λ h. omega (arith, ints)) (λ h. ap pos h) (λ h. omega (arith, ints)) (ranked x y (nat_cmp x y) refl)))

pub int_cmp-neg : (x y : ℕ) → int_cmp (neg_ℤ (pos x)) (neg_ℤ (pos y)) ≡ nat_cmp y x
int_cmp-neg x y =
    sym (int_cmp_is (neg_ℤ (pos x)) (neg_ℤ (pos y)) (nat_cmp y x)
    (match-map (nat_cmp y x) (λ h. omega (arith, ints)) (λ h. ap (λ k. neg_ℤ (pos k)) (sym h)) (λ h. omega (arith, ints)) (ranked y x (nat_cmp y x) refl)))

pub int_cmp-above : (x y : ℕ) → 0 < y → int_cmp (pos x) (neg_ℤ (pos y)) ≡ Greater
int_cmp-above x y some = sym (int_cmp_is (pos x) (neg_ℤ (pos y)) Greater (let h : neg_ℤ (pos y) <ℤ pos x = omega (arith, ints) in h))

pub int_cmp-below : (x y : ℕ) → 0 < x → int_cmp (neg_ℤ (pos x)) (pos y) ≡ Less
int_cmp-below x y some = sym (int_cmp_is (neg_ℤ (pos x)) (pos y) Less (let h : neg_ℤ (pos x) <ℤ pos y = omega (arith, ints) in h))

-- factors above 0 keep the order
pub nat_cmp-scaled : (x y k : ℕ) → 0 < k → nat_cmp (x * k) (y * k) ≡ nat_cmp x y
nat_cmp-scaled x y k some =
    sym (nat_cmp_is (x * k) (y * k) (nat_cmp x y)
    (match-map (nat_cmp x y) (λ h. mul-lt-mul_of_pos_right h some) (λ h. ap (λ n. n * k) h) (λ h. mul-lt-mul_of_pos_right h some) (ranked x y (nat_cmp x y) refl)))

some-product : (n k : ℕ) → 0 < k → 0 < suc n * k
some-product n k some = omega arith

pub int_cmp-scaled : (x y : ℤ) (k : ℕ) → 0 < k → int_cmp (x *ℤ pos k) (y *ℤ pos k) ≡ int_cmp x y
int_cmp-scaled (pos m) (pos n) k some = (int_cmp-pos (m * k) (n * k) ∙ nat_cmp-scaled m n k some ∙ sym (int_cmp-pos m n))
int_cmp-scaled (pos m) (negsuc n) k some = (int_cmp-above (m * k) (suc n * k) (some-product n k some) ∙ sym (int_cmp-above m (suc n) (omega arith)))
int_cmp-scaled (negsuc m) (pos n) k some = (int_cmp-below (suc m * k) (n * k) (some-product m k some) ∙ sym (int_cmp-below (suc m) n (omega arith)))
int_cmp-scaled (negsuc m) (negsuc n) k some = (int_cmp-neg (suc m * k) (suc n * k) ∙ nat_cmp-scaled (suc n) (suc m) k some ∙ sym (int_cmp-neg (suc m) (suc n)))

neg-scaled : (n k : ℕ) → neg_ℤ (pos n) *ℤ pos k ≡ neg_ℤ (pos (n * k))
neg-scaled zero k = let none : 0 * k ≡ 0 = omega arith in rw none refl
neg-scaled (suc n) k = negsuc-*ℤ-pos n k

-- the order by signs and magnitudes
pub both_from_zero : (x y : ℤ) (p q : ℕ) → is_below_zero x ≡ false → is_below_zero y ≡ false → int_cmp (x *ℤ pos p) (y *ℤ pos q) ≡ nat_cmp (unsigned_abs x * p) (unsigned_abs y * q)
both_from_zero (pos m) (pos n) p q h g = int_cmp-pos (m * p) (n * q)
both_from_zero (pos m) (negsuc n) p q h g = cc
both_from_zero (negsuc m) y p q h g = cc

pub both_below_zero : (x y : ℤ) (p q : ℕ) → is_below_zero x ≡ true → is_below_zero y ≡ true → int_cmp (x *ℤ pos p) (y *ℤ pos q) ≡ nat_cmp (unsigned_abs y * q) (unsigned_abs x * p)
both_below_zero (negsuc m) (negsuc n) p q h g = int_cmp-neg (suc m * p) (suc n * q)
both_below_zero (negsuc m) (pos n) p q h g = cc
both_below_zero (pos m) y p q h g = cc

pub first_below_zero : (x y : ℤ) (p q : ℕ) → 0 < p → is_below_zero x ≡ true → is_below_zero y ≡ false → int_cmp (x *ℤ pos p) (y *ℤ pos q) ≡ Less
first_below_zero (negsuc m) (pos n) p q some h g = int_cmp-below (suc m * p) (n * q) (some-product m p some)
first_below_zero (negsuc m) (negsuc n) p q some h g = cc
first_below_zero (pos m) y p q some h g = cc

pub second_below_zero : (x y : ℤ) (p q : ℕ) → 0 < q → is_below_zero x ≡ false → is_below_zero y ≡ true → int_cmp (x *ℤ pos p) (y *ℤ pos q) ≡ Greater
second_below_zero (pos m) (negsuc n) p q some h g = int_cmp-above (m * p) (suc n * q) (some-product n q some)
second_below_zero (pos m) (pos n) p q some h g = cc
second_below_zero (negsuc m) y p q some h g = cc

-- digits more on one side alone
pub nat_cmp-widened : (m n j k : ℕ) → j ≤ k → nat_cmp (m * 10 ^ (k - j)) n ≡ nat_cmp (m * 10 ^ k) (n * 10 ^ j)
nat_cmp-widened m n j k le =
    let split : 10 ^ (k - j) * 10 ^ j ≡ 10 ^ k = sym (pow-add 10 (k - j) j) ∙ ap (λ (e : ℕ). 10 ^ e) (let e : (k - j) + j ≡ k = omega arith in e) in
    sym (nat_cmp-scaled (m * 10 ^ (k - j)) n (10 ^ j) (some-power j))
    ∙ ap (λ (z : ℕ). nat_cmp z (n * 10 ^ j)) (mul_assoc m (10 ^ (k - j)) (10 ^ j) ∙ ap (λ (z : ℕ). m * z) split)

-- two factors in turn
scaled-twice : (x : ℤ) (j k : ℕ) → (x *ℤ pos j) *ℤ pos k ≡ x *ℤ pos (j * k)
scaled-twice (pos m) j k = ap (λ (z : ℤ). z *ℤ pos k) (pos-*ℤ-pos m j) ∙ pos-*ℤ-pos (m * j) k ∙ ap pos (mul_assoc m j k) ∙ sym (pos-*ℤ-pos m (j * k))
scaled-twice (negsuc m) j k = ap (λ (z : ℤ). z *ℤ pos k) (negsuc-*ℤ-pos m j) ∙ neg-scaled (suc m * j) k ∙ ap (λ (n : ℕ). neg_ℤ (pos n)) (mul_assoc (suc m) j k) ∙ sym (negsuc-*ℤ-pos m (j * k))

-- two numbers under a scale that is great enough for a third one too
wide : Dec → ℕ → ℕ → ℤ
wide a j k = a.units *ℤ pos (10 ^ j * 10 ^ k)

wide_comm : (a : Dec) (j k : ℕ) → wide a j k ≡ wide a k j
unfolding wide
wide_comm a j k = ap (λ (n : ℕ). a.units *ℤ pos n) (mul_comm (10 ^ j) (10 ^ k))

compare-wide : (a b : Dec) (k : ℕ) → compare_numbers a b ≡ int_cmp (wide a b.scale k) (wide b a.scale k)
unfolding compare_numbers wide
compare-wide a b k =
    sym (int_cmp-scaled (units_with b.scale a) (units_with a.scale b) (10 ^ k) (some-power k))
    ∙ ap (λ (z : ℤ). int_cmp z (units_with a.scale b *ℤ pos (10 ^ k))) (scaled-twice a.units (10 ^ b.scale) (10 ^ k))
    ∙ ap (λ (z : ℤ). int_cmp (a.units *ℤ pos (10 ^ b.scale * 10 ^ k)) z) (scaled-twice b.units (10 ^ a.scale) (10 ^ k))

-- three numbers under one scale
record InCommon (a b c : Dec) : Type 0 where
  first_two : compare_numbers a b ≡ int_cmp (wide a b.scale c.scale) (wide b a.scale c.scale)
  last_two : compare_numbers b c ≡ int_cmp (wide b a.scale c.scale) (wide c a.scale b.scale)
  outer : compare_numbers a c ≡ int_cmp (wide a b.scale c.scale) (wide c a.scale b.scale)

in_common : (a b c : Dec) → InCommon a b c
in_common a b c = record {
  first_two = compare-wide a b c.scale;
  last_two = compare-wide b c a.scale
      ∙ ap (λ (z : ℤ). int_cmp z (wide c b.scale a.scale)) (wide_comm b c.scale a.scale)
      ∙ ap (λ (z : ℤ). int_cmp (wide b a.scale c.scale) z) (wide_comm c b.scale a.scale);
  outer = compare-wide a c b.scale
      ∙ ap (λ (z : ℤ). int_cmp z (wide c a.scale b.scale)) (wide_comm a c.scale b.scale);
}

pub compare_numbers-total : IsTotalOrder compare_numbers
unfolding compare_numbers
compare_numbers-total = record {
  antisymm = λ a b. int_cmp_total.antisymm (units_with b.scale a) (units_with a.scale b);
  trans = λ a b c less more. (let three = in_common a b c in
      three.outer ∙ int_cmp_total.trans (wide a b.scale c.scale) (wide b a.scale c.scale) (wide c a.scale b.scale) (sym three.first_two ∙ less) (sym three.last_two ∙ more));
  congr = λ a b c same. (let three = in_common a b c in
      three.outer ∙ int_cmp_total.congr (wide a b.scale c.scale) (wide b a.scale c.scale) (wide c a.scale b.scale) (sym three.first_two ∙ same) ∙ sym three.last_two);
}

pub compare_numbers-value : (a b : Dec) → (compare_numbers a b ≡ Equal) ↔ HaveOneValue a b
unfolding compare_numbers
compare_numbers-value a b = (
  (λ e. subst (λ (o : Ordering). MatchOrdering o (units_with b.scale a <ℤ units_with a.scale b) (units_with b.scale a ≡ units_with a.scale b) (units_with a.scale b <ℤ units_with b.scale a)) e (int_ranked (units_with b.scale a) (units_with a.scale b) (int_cmp (units_with b.scale a) (units_with a.scale b)) refl)),
  (λ same. sym (int_cmp_is (units_with b.scale a) (units_with a.scale b) Equal same)),
)
