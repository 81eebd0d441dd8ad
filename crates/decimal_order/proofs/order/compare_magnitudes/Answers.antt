use Rattle.std.proofs.Common.{◌≡◌, ◌*◌, ◌^◌, ◌∙◌, ap, sym, unsigned_abs, FitsSigned, rules, arith}
use Rattle.std.specs.Int.{w128}
use Rattle.std.specs.Ordering.{ordering_reverse}
use Rattle.std.proofs.lemmas.Int.{to_z-of_z}
use Rattle.std.proofs.lemmas.Cmp.{nat_cmp_total}
use Rattle.decimal_order.proofs.OrderLemmas.{nat_cmp-widened}
use Rattle.decimal_order.proofs.order.compare_magnitudes.Goals as goal

pub returns-then-a-b : goal.returns-then-a-b
returns-then-a-b c =
    let a_fits : FitsSigned w128 c.args.a.units = search rules in
    let b_fits : FitsSigned w128 c.args.b.units = search rules in
    let left : c.unsigned_abs-left.result ≡ unsigned_abs c.args.a.units = simp to_z-of_z at c.unsigned_abs-left.ensures.value in
    let right : c.unsigned_abs-right.result ≡ unsigned_abs c.args.b.units = simp to_z-of_z at c.unsigned_abs-right.ensures.value in
    (rw (left, right) at c.compare_widened.ensures)
    ∙ nat_cmp-widened (unsigned_abs c.args.a.units) (unsigned_abs c.args.b.units) c.args.a.scale c.args.b.scale (omega arith)

pub returns-else-a-b : goal.returns-else-a-b
returns-else-a-b c =
    let a_fits : FitsSigned w128 c.args.a.units = search rules in
    let b_fits : FitsSigned w128 c.args.b.units = search rules in
    let left : c.unsigned_abs-left.result ≡ unsigned_abs c.args.a.units = simp to_z-of_z at c.unsigned_abs-left.ensures.value in
    let right : c.unsigned_abs-right.result ≡ unsigned_abs c.args.b.units = simp to_z-of_z at c.unsigned_abs-right.ensures.value in
    let other = (rw (left, right) at c.compare_widened-else-a-b.ensures) ∙ nat_cmp-widened (unsigned_abs c.args.b.units) (unsigned_abs c.args.a.units) c.args.b.scale c.args.a.scale (omega arith) in
    c.reverse.ensures ∙ ap ordering_reverse other ∙ sym (nat_cmp_total.antisymm (unsigned_abs c.args.a.units * 10 ^ c.args.b.scale) (unsigned_abs c.args.b.units * 10 ^ c.args.a.scale))
