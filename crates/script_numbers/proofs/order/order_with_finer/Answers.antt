use Rattle.std.proofs.Common.{◌≡◌, ◌^◌, ◌-◌, pos, ◌*ℤ◌, ◌+ℤ◌, ◌∙◌, rules, FitsSigned}
use Rattle.std.specs.Int.{w128}
use Rattle.std.specs.Ordering.{int_cmp}
use Rattle.std.proofs.lemmas.Int.{to_z-of_z}
use Rattle.script_numbers.proofs.OrderLemmas.{split-order}
use Rattle.script_numbers.proofs.order.order_with_finer.Goals as goal

pub returns : goal.returns
returns c =
    let coarse : FitsSigned w128 c.args.coarse.units = search rules in
    let fine : FitsSigned w128 c.args.fine.units = search rules in
    let whole : FitsSigned w128 c.new-whole.result.whole = search rules in
    let rest : FitsSigned w128 c.new-whole.result.rest = search rules in
    let is : c.new-whole.result.whole *ℤ pos (10 ^ (c.args.fine.scale - c.args.coarse.scale)) +ℤ c.new-whole.result.rest ≡ c.args.fine.units = simp to_z-of_z at c.new-whole.ensures.whole in
    let wholes : c.cmp.result ≡ int_cmp c.args.coarse.units c.new-whole.result.whole = simp to_z-of_z at c.cmp.ensures in
    let rests : c.cmp-2.result ≡ int_cmp (pos 0) c.new-whole.result.rest = simp to_z-of_z at c.cmp-2.ensures in
    c.then.ensures
    ∙ rw (wholes, rests)
    (split-order c.args.coarse.units c.new-whole.result.whole c.new-whole.result.rest c.args.fine.units (10 ^ (c.args.fine.scale - c.args.coarse.scale)) is c.new-whole.ensures.rest)
