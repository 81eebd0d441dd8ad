use Rattle.std.proofs.Common.{◌^◌, ◌∙◌, sym}
use Rattle.decimal_order.specs.DecimalOrder.{compare_numbers}
use Rattle.decimal_order.proofs.OrderLemmas.{some-power, both_from_zero, both_below_zero, first_below_zero, second_below_zero}
use Rattle.decimal_order.proofs.order.compare.Goals as goal

pub returns-in-true-true : goal.returns-in-true-true
unfolding compare_numbers
returns-in-true-true c =
    c.compare_magnitudes.ensures
    ∙ sym (both_below_zero c.args.a.units c.args.b.units (10 ^ c.args.b.scale) (10 ^ c.args.a.scale) (sym c.in-true-true.ensures) (sym c.in-true-true.ensures'))

pub returns-in-true-false : goal.returns-in-true-false
unfolding compare_numbers
returns-in-true-false c =
    sym (first_below_zero c.args.a.units c.args.b.units (10 ^ c.args.b.scale) (10 ^ c.args.a.scale) (some-power c.args.b.scale) (sym c.in-true-false.ensures) (sym c.in-true-false.ensures'))

pub returns-in-false-true : goal.returns-in-false-true
unfolding compare_numbers
returns-in-false-true c =
    sym (second_below_zero c.args.a.units c.args.b.units (10 ^ c.args.b.scale) (10 ^ c.args.a.scale) (some-power c.args.a.scale) (sym c.in-false-true.ensures) (sym c.in-false-true.ensures'))

pub returns-in-false-false : goal.returns-in-false-false
unfolding compare_numbers
returns-in-false-false c =
    c.compare_magnitudes-in-false-false.ensures
    ∙ sym (both_from_zero c.args.a.units c.args.b.units (10 ^ c.args.b.scale) (10 ^ c.args.a.scale) (sym c.in-false-false.ensures) (sym c.in-false-false.ensures'))
