use Rattle.std.proofs.Common.{◌≡◌, ◌<◌, ◌+◌, rules, FitsSigned, unsigned_abs}
use Rattle.std.specs.Int.{w128}
use Rattle.std.proofs.lemmas.Int.{to_z-of_z}
use Rattle.key_order.specs.KeyBytes.{middle}
use Rattle.key_order.proofs.ValueLemmas.{middle-shift, middle-wide, from_middle-below, from_middle-above}
use Rattle.key_order.proofs.bytes.from_middle.Goals as goal

pub overflow_sub-result : goal.overflow_sub-result
overflow_sub-result c =
    let fits : FitsSigned w128 c.args.units = c.ranges.units in
    let value : c.unsigned_abs-magnitude.result ≡ unsigned_abs c.args.units = simp to_z-of_z at c.unsigned_abs-magnitude.ensures.value in
    rw (middle-shift c.args.digits c.number_width.result c.requires.digits c.number_width.ensures.width, value)
    (middle-wide c.args.digits (unsigned_abs c.args.units) c.requires.digits c.requires.small).0

pub overflow_add-result : goal.overflow_add-result
overflow_add-result c =
    let fits : FitsSigned w128 c.args.units = c.ranges.units in
    let value : c.unsigned_abs-magnitude.result ≡ unsigned_abs c.args.units = simp to_z-of_z at c.unsigned_abs-magnitude.ensures.value in
    let room : middle c.args.digits + unsigned_abs c.args.units < 340282366920938463463374607431768211456 =
    (middle-wide c.args.digits (unsigned_abs c.args.units) c.requires.digits c.requires.small).1 in
    rw (middle-shift c.args.digits c.number_width.result c.requires.digits c.number_width.ensures.width, value)
    (search rules)

pub returns-then-units-lt0 : goal.returns-then-units-lt0
returns-then-units-lt0 c =
    let fits : FitsSigned w128 c.args.units = c.ranges.units in
    let value : c.unsigned_abs-magnitude.result ≡ unsigned_abs c.args.units = simp to_z-of_z at c.unsigned_abs-magnitude.ensures.value in
    rw (middle-shift c.args.digits c.number_width.result c.requires.digits c.number_width.ensures.width, value)
    (from_middle-below (middle c.args.digits) c.args.units (simp to_z-of_z at c.if-units-lt0.true))

pub returns-else-units-lt0 : goal.returns-else-units-lt0
returns-else-units-lt0 c =
    let fits : FitsSigned w128 c.args.units = c.ranges.units in
    let value : c.unsigned_abs-magnitude.result ≡ unsigned_abs c.args.units = simp to_z-of_z at c.unsigned_abs-magnitude.ensures.value in
    rw (middle-shift c.args.digits c.number_width.result c.requires.digits c.number_width.ensures.width, value)
    (from_middle-above (middle c.args.digits) c.args.units (simp to_z-of_z at c.if-units-lt0.false))
