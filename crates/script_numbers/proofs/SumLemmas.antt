-- Sums and differences of a number and one of a larger scale, which is given as wholes of the first one's units and a rest.
use Rattle.std.proofs.Common.{◌≡◌, ℕ, zero, suc, ◌-◌, ◌*◌, ◌^◌, ◌<◌, ◌≤◌, max, ℤ, pos, negsuc, ◌+ℤ◌, ◌-ℤ◌, ◌*ℤ◌, ◌<ℤ◌, ◌≤ℤ◌, unsigned_abs, FitsSigned, None, refl, sym, ◌∙◌, ap, arith}
use Rattle.std.specs.Int.{w128}
use Rattle.std.proofs.lemmas.Int.{ints, fits_signed_from_abs}
use Rattle.std.proofs.Math.IntN.{*ℤ_comm, *ℤ-zero, suc_ℤ-*ℤ, pos-*ℤ-pos}
use Rattle.field_types.specs.declared.values.Dec.{Dec}
use Rattle.script_numbers.specs.Arithmetic.{number_of, units_at, sum_of, difference_of}
use Rattle.script_numbers.proofs.SplitLemmas.{too-many-wholes, held-power}

pub max-right : (m n : ℕ) → m ≤ n → max m n ≡ n
max-right m n le = omega arith

pub max-left : (m n : ℕ) → n ≤ m → max m n ≡ m
max-left m n le = omega arith

-- a number in units of its own scale
pub own-units : (number : Dec) → units_at number.scale number ≡ number.units
own-units number =
    let none : number.scale - number.scale ≡ 0 = omega arith in
    rw none (omega (arith, ints))

times-more : (x : ℤ) (n : ℕ) → x *ℤ pos (suc n) ≡ x *ℤ pos n +ℤ x
times-more x n = *ℤ_comm x (pos (suc n)) ∙ suc_ℤ-*ℤ (pos n) x ∙ ap (λ y. y +ℤ x) (*ℤ_comm (pos n) x)

add-more : (a b c x y : ℤ) → c ≡ a +ℤ b → c +ℤ (x +ℤ y) ≡ (a +ℤ x) +ℤ (b +ℤ y)
add-more a b c x y is = omega (arith, ints)

add-times : (x w : ℤ) (n : ℕ) → (x +ℤ w) *ℤ pos n ≡ x *ℤ pos n +ℤ w *ℤ pos n
add-times x w zero = *ℤ-zero (x +ℤ w) ∙ sym (rw (*ℤ-zero x, *ℤ-zero w) refl)
add-times x w (suc n) =
    times-more (x +ℤ w) n
    ∙ add-more (x *ℤ pos n) (w *ℤ pos n) ((x +ℤ w) *ℤ pos n) x w (add-times x w n)
    ∙ sym (rw (times-more x n, times-more w n) refl)

difference-more : (a b c x y : ℤ) → c ≡ a -ℤ b → c +ℤ (x -ℤ y) ≡ (a +ℤ x) -ℤ (b +ℤ y)
difference-more a b c x y is = omega (arith, ints)

pub difference-times : (x w : ℤ) (n : ℕ) → (x -ℤ w) *ℤ pos n ≡ x *ℤ pos n -ℤ w *ℤ pos n
difference-times x w zero = *ℤ-zero (x -ℤ w) ∙ sym (rw (*ℤ-zero x, *ℤ-zero w) refl)
difference-times x w (suc n) =
    times-more (x -ℤ w) n
    ∙ difference-more (x *ℤ pos n) (w *ℤ pos n) ((x -ℤ w) *ℤ pos n) x w (difference-times x w n)
    ∙ sym (rw (times-more x n, times-more w n) refl)

joined-sum : (whole x w r f : ℤ) → w +ℤ r ≡ f → whole ≡ x +ℤ w → whole +ℤ r ≡ x +ℤ f
joined-sum whole x w r f is e = omega (arith, ints)

joined-difference : (whole x w r f : ℤ) → w +ℤ r ≡ f → whole ≡ x -ℤ w → whole +ℤ (pos 0 -ℤ r) ≡ x -ℤ f
joined-difference whole x w r f is e = omega (arith, ints)

joined-coarser : (whole x w r f : ℤ) → w +ℤ r ≡ f → whole ≡ w -ℤ x → whole +ℤ r ≡ f -ℤ x
joined-coarser whole x w r f is e = omega (arith, ints)

sum-split : (x w r f : ℤ) (n : ℕ) → w *ℤ pos n +ℤ r ≡ f → (x +ℤ w) *ℤ pos n +ℤ r ≡ x *ℤ pos n +ℤ f
sum-split x w r f n is = joined-sum ((x +ℤ w) *ℤ pos n) (x *ℤ pos n) (w *ℤ pos n) r f is (add-times x w n)

sum-swapped : (x w r f : ℤ) (n : ℕ) → w *ℤ pos n +ℤ r ≡ f → (x -ℤ w) *ℤ pos n +ℤ (pos 0 -ℤ r) ≡ x *ℤ pos n -ℤ f
sum-swapped x w r f n is = joined-difference ((x -ℤ w) *ℤ pos n) (x *ℤ pos n) (w *ℤ pos n) r f is (difference-times x w n)

difference-split : (x w r f : ℤ) (n : ℕ) → w *ℤ pos n +ℤ r ≡ f → (w -ℤ x) *ℤ pos n +ℤ r ≡ f -ℤ x *ℤ pos n
difference-split x w r f n is = joined-coarser ((w -ℤ x) *ℤ pos n) (x *ℤ pos n) (w *ℤ pos n) r f is (difference-times w x n)

pub sum_of-split : (coarse fine : Dec) (whole rest : ℤ) → coarse.scale ≤ fine.scale → whole *ℤ pos (10 ^ (fine.scale - coarse.scale)) +ℤ rest ≡ fine.units → number_of fine.scale ((coarse.units +ℤ whole) *ℤ pos (10 ^ (fine.scale - coarse.scale)) +ℤ rest) ≡ sum_of coarse fine
sum_of-split coarse fine whole rest le is =
    rw (max-right coarse.scale fine.scale le, own-units fine)
    (ap (number_of fine.scale) (sum-split coarse.units whole rest fine.units (10 ^ (fine.scale - coarse.scale)) is))

pub difference_of-finer : (left right : Dec) (whole rest : ℤ) → left.scale ≤ right.scale → whole *ℤ pos (10 ^ (right.scale - left.scale)) +ℤ rest ≡ right.units → number_of right.scale ((left.units -ℤ whole) *ℤ pos (10 ^ (right.scale - left.scale)) +ℤ (pos 0 -ℤ rest)) ≡ difference_of left right
difference_of-finer left right whole rest le is =
    rw (max-right left.scale right.scale le, own-units right)
    (ap (number_of right.scale) (sum-swapped left.units whole rest right.units (10 ^ (right.scale - left.scale)) is))

pub difference_of-coarser : (left right : Dec) (whole rest : ℤ) → right.scale ≤ left.scale → whole *ℤ pos (10 ^ (left.scale - right.scale)) +ℤ rest ≡ left.units → number_of left.scale ((whole -ℤ right.units) *ℤ pos (10 ^ (left.scale - right.scale)) +ℤ rest) ≡ difference_of left right
difference_of-coarser left right whole rest le is =
    rw (max-left left.scale right.scale le, own-units left)
    (ap (number_of left.scale) (difference-split right.units whole rest left.units (10 ^ (left.scale - right.scale)) is))

-- wholes that the type doesn't hold
pub sum_of-unfit : (coarse fine : Dec) (whole rest : ℤ) → coarse.scale ≤ fine.scale → fine.scale < 31 → whole *ℤ pos (10 ^ (fine.scale - coarse.scale)) +ℤ rest ≡ fine.units → unsigned_abs rest < 10 ^ (fine.scale - coarse.scale) → (FitsSigned w128 (coarse.units +ℤ whole) → ⊥) → sum_of coarse fine ≡ None
sum_of-unfit coarse fine whole rest le few is less unfit =
    sym (sum_of-split coarse fine whole rest le is) ∙ too-many-wholes fine.scale (fine.scale - coarse.scale) (coarse.units +ℤ whole) rest (omega arith) less unfit

pub unsigned_abs-negated : (z : ℤ) → unsigned_abs (pos 0 -ℤ z) ≡ unsigned_abs z
unsigned_abs-negated z = omega (arith, ints)

pub negated-fits : (z : ℤ) (n : ℕ) → n ≤ 30 → unsigned_abs z < 10 ^ n → FitsSigned w128 (pos 0 -ℤ z)
negated-fits z n few less =
    let held = held-power n (omega arith) in
    fits_signed_from_abs w128 (pos 0 -ℤ z) (rw unsigned_abs-negated (omega (arith, held)))

pub difference_of-finer_unfit : (left right : Dec) (whole rest : ℤ) → left.scale ≤ right.scale → right.scale < 31 → whole *ℤ pos (10 ^ (right.scale - left.scale)) +ℤ rest ≡ right.units → unsigned_abs rest < 10 ^ (right.scale - left.scale) → (FitsSigned w128 (left.units -ℤ whole) → ⊥) → difference_of left right ≡ None
difference_of-finer_unfit left right whole rest le few is less unfit =
    sym (difference_of-finer left right whole rest le is)
    ∙ too-many-wholes right.scale (right.scale - left.scale) (left.units -ℤ whole) (pos 0 -ℤ rest) (omega arith) (rw unsigned_abs-negated less) unfit

pub difference_of-coarser_unfit : (left right : Dec) (whole rest : ℤ) → right.scale ≤ left.scale → left.scale < 31 → whole *ℤ pos (10 ^ (left.scale - right.scale)) +ℤ rest ≡ left.units → unsigned_abs rest < 10 ^ (left.scale - right.scale) → (FitsSigned w128 (whole -ℤ right.units) → ⊥) → difference_of left right ≡ None
difference_of-coarser_unfit left right whole rest le few is less unfit =
    sym (difference_of-coarser left right whole rest le is)
    ∙ too-many-wholes left.scale (left.scale - right.scale) (whole -ℤ right.units) rest (omega arith) less unfit

-- how the wholes decide an order
at-least-one : (d : ℤ) (n : ℕ) → pos 0 <ℤ d → pos n ≤ℤ (d *ℤ pos n)
at-least-one (pos d) n some = rw pos-*ℤ-pos (pos-above d n (omega (arith, ints)))
  where
    pos-above : (d n : ℕ) → 1 ≤ d → pos n ≤ℤ pos (d * n)
    pos-above d n le = let more : n ≤ d * n = grind arith in omega (arith, ints)
at-least-one (negsuc d) n some = absurd (omega (arith, ints))

pub split-less : (x w r f : ℤ) (n : ℕ) → w *ℤ pos n +ℤ r ≡ f → unsigned_abs r < n → x <ℤ w → (x *ℤ pos n) <ℤ f
split-less x w r f n is less h =
    let above = at-least-one (w -ℤ x) n (omega (arith, ints)) in
    apart (x *ℤ pos n) (w *ℤ pos n) r f n is less (rw difference-times at above)
  where
    apart : (x w r f : ℤ) (n : ℕ) → w +ℤ r ≡ f → unsigned_abs r < n → pos n ≤ℤ (w -ℤ x) → x <ℤ f
    apart x w r f n is less h = omega (arith, ints)

pub split-greater : (x w r f : ℤ) (n : ℕ) → w *ℤ pos n +ℤ r ≡ f → unsigned_abs r < n → w <ℤ x → f <ℤ (x *ℤ pos n)
split-greater x w r f n is less h =
    let above = at-least-one (x -ℤ w) n (omega (arith, ints)) in
    apart (x *ℤ pos n) (w *ℤ pos n) r f n is less (rw difference-times at above)
  where
    apart : (x w r f : ℤ) (n : ℕ) → w +ℤ r ≡ f → unsigned_abs r < n → pos n ≤ℤ (x -ℤ w) → f <ℤ x
    apart x w r f n is less h = omega (arith, ints)

pub split-equal : (x w r f : ℤ) (n : ℕ) → w *ℤ pos n +ℤ r ≡ f → x ≡ w → x *ℤ pos n +ℤ r ≡ f
split-equal x w r f n is h = rw h is
