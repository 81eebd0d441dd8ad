-- The order of a number and one of a larger scale, by wholes first and then by the rest.
use Rattle.std.proofs.Common.{◌≡◌, ℕ, ◌-◌, ◌^◌, ◌<◌, ◌≤◌, ℤ, pos, ◌+ℤ◌, ◌*ℤ◌, ◌<ℤ◌, unsigned_abs, refl, sym, arith}
use Rattle.std.specs.declared.cmp.Ordering.{Ordering}
use Rattle.std.specs.declared.cmp.Ordering.TheVariants.{Less, Equal, Greater}
use Rattle.std.specs.Ordering.{int_cmp, ordering_then, ordering_reverse, MatchOrdering}
use Rattle.std.specs.Cmp.{int_ranks, int_cmp_is}
use Rattle.std.proofs.lemmas.Int.{ints}
use Rattle.field_types.specs.declared.values.Dec.{Dec}
use Rattle.script_numbers.specs.Order.{number_order}
use Rattle.script_numbers.proofs.SumLemmas.{max-right, max-left, own-units, split-less, split-greater, split-equal}

by-rest : (o : Ordering) (x w r f : ℤ) (n : ℕ) → MatchOrdering o (x <ℤ w) (x ≡ w) (w <ℤ x) → w *ℤ pos n +ℤ r ≡ f → unsigned_abs r < n → ordering_then o (int_cmp (pos 0) r) ≡ int_cmp (x *ℤ pos n) f
by-rest Less x w r f n h is less = int_cmp_is (x *ℤ pos n) f Less (split-less x w r f n is less h)
by-rest Equal x w r f n h is less = int_cmp_is (x *ℤ pos n) f (int_cmp (pos 0) r) (rests (int_cmp (pos 0) r) (int_ranks (pos 0) r) (split-equal x w r f n is h))
  where
    rests : (o : Ordering) → MatchOrdering o (pos 0 <ℤ r) (pos 0 ≡ r) (r <ℤ pos 0) → x *ℤ pos n +ℤ r ≡ f → MatchOrdering o ((x *ℤ pos n) <ℤ f) (x *ℤ pos n ≡ f) (f <ℤ (x *ℤ pos n))
    rests Less q e = omega (arith, ints)
    rests Equal q e = omega (arith, ints)
    rests Greater q e = omega (arith, ints)
by-rest Greater x w r f n h is less = int_cmp_is (x *ℤ pos n) f Greater (split-greater x w r f n is less h)

pub split-order : (x w r f : ℤ) (n : ℕ) → w *ℤ pos n +ℤ r ≡ f → unsigned_abs r < n → ordering_then (int_cmp x w) (int_cmp (pos 0) r) ≡ int_cmp (x *ℤ pos n) f
split-order x w r f n is less = by-rest (int_cmp x w) x w r f n (int_ranks x w) is less

pub number_order-finer : (left right : Dec) → left.scale ≤ right.scale → int_cmp (left.units *ℤ pos (10 ^ (right.scale - left.scale))) right.units ≡ number_order left right
number_order-finer left right le = rw (max-right left.scale right.scale le, own-units right) refl

pub number_order-coarser : (left right : Dec) → right.scale ≤ left.scale → ordering_reverse (int_cmp (right.units *ℤ pos (10 ^ (left.scale - right.scale))) left.units) ≡ number_order left right
number_order-coarser left right le =
    rw (max-left left.scale right.scale le, own-units left)
    (reversed (right.units *ℤ pos (10 ^ (left.scale - right.scale))) left.units (int_cmp (right.units *ℤ pos (10 ^ (left.scale - right.scale))) left.units) (int_ranks (right.units *ℤ pos (10 ^ (left.scale - right.scale))) left.units))
  where
    reversed : (x y : ℤ) (o : Ordering) → MatchOrdering o (x <ℤ y) (x ≡ y) (y <ℤ x) → ordering_reverse o ≡ int_cmp y x
    reversed x y Less h = int_cmp_is y x Greater h
    reversed x y Equal h = int_cmp_is y x Equal (sym h)
    reversed x y Greater h = int_cmp_is y x Less h
