use Rattle.std.proofs.Common.{◌≡◌, ◌∙◌, [], drop, ap, sym, arith}
use Rattle.std.proofs.lemmas.List.{drop_all}
use Rattle.key_order.specs.KeyFields.{key_width}
use Rattle.key_order.proofs.WidthLemmas.{length-encoded, length-encoded_values}
use Rattle.key_order.proofs.widths.bound.Goals as goal

counted : (c : goal.After-loop-part) → c.loop-part.width ≡ key_width c.args.parts.now
counted c =
    let none : drop c.loop-part.part-index c.args.parts.now ≡ [] = drop_all c.loop-part.part-index c.args.parts.now c.loop-part-test.false in
    let left : key_width (drop c.loop-part.part-index c.args.parts.now) ≡ 0 = ap key_width none in
    omega arith

pub returns-clause-images : goal.returns-clause-images
returns-clause-images c image has = length-encoded c.args.parts.now image has ∙ sym (counted c)

pub returns-clause-values : goal.returns-clause-values
returns-clause-values c values none =
    let width = counted c in
    omega (arith, length-encoded_values c.args.parts.now values none)
