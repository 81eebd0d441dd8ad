use Rattle.std.proofs.Common.{◌≤◌, ◌<◌, ◌^◌, ◌+◌, length, sym, ◌∙◌, arith}
use Rattle.dds_source.proofs.NumberLemmas.{pow_below, bound_more, digits_more, decimal_more}
use Rattle.dds_source.proofs.numbers.decimal_after.Goals as goal

pub overflow_mul-number : goal.overflow_mul-number
overflow_mul-number c = let below : 10 ^ (c.args.places + c.loop-digit.digit-index) ≤ 10 ^ 31 = pow_below (c.args.places + c.loop-digit.digit-index) 31 (omega arith) in omega (arith, c.loop-digit.invariant.bound)

pub overflow_add-number : goal.overflow_add-number
overflow_add-number c = let below : 10 ^ (c.args.places + c.loop-digit.digit-index) ≤ 10 ^ 31 = pow_below (c.args.places + c.loop-digit.digit-index) 31 (omega arith) in omega (arith, c.loop-digit.invariant.bound)

pub loop-digit-preserved : goal.loop-digit-preserved
loop-digit-preserved c =
    let lt : c.loop-digit.digit-index < length c.args.digits.now = omega arith in
    let more = digits_more c.args.digits.now c.loop-digit.digit-index lt c.loop-digit.invariant.digits in
    record {
      bound = bound_more c.loop-digit.number c.from.result c.args.places c.loop-digit.digit-index c.loop-digit.invariant.bound (omega (arith, c.from.ensures, more.0));
      digits = more.1;
      value = rw c.from.ensures (sym (decimal_more c.args.digits.now c.loop-digit.digit-index c.loop-digit.number lt) ∙ c.loop-digit.invariant.value);
    }
