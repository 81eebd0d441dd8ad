use Rattle.std.proofs.Common.{◌≡◌, ◌^◌, ◌-◌, pos, ◌*ℤ◌, ◌+ℤ◌, ◌-ℤ◌, sym, ◌∙◌, rules, arith, FitsSigned}
use Rattle.std.specs.Int.{w128}
use Rattle.std.proofs.lemmas.Int.{to_z-of_z}
use Rattle.script_numbers.specs.Arithmetic.{number_of}
use Rattle.script_numbers.proofs.SumLemmas.{difference_of-coarser, difference_of-coarser_unfit}
use Rattle.script_numbers.proofs.sums.difference_with_coarser.Goals as goal

pub returns : goal.returns
returns c =
    let coarse : FitsSigned w128 c.args.right.units = search rules in
    let fine : FitsSigned w128 c.args.left.units = search rules in
    let whole : FitsSigned w128 c.new-whole.result.whole = search rules in
    let rest : FitsSigned w128 c.new-whole.result.rest = search rules in
    let sum : FitsSigned w128 c.in-Some.whole = search rules in
    let is : c.new-whole.result.whole *ℤ pos (10 ^ (c.args.left.scale - c.args.right.scale)) +ℤ c.new-whole.result.rest ≡ c.args.left.units = simp to_z-of_z at c.new-whole.ensures.whole in
    let added : c.in-Some.whole ≡ c.new-whole.result.whole -ℤ c.args.right.units = simp to_z-of_z at c.in-Some.ensures.1 in
    let joined : c.joined.result ≡ number_of c.args.left.scale (c.in-Some.whole *ℤ pos (10 ^ (c.args.left.scale - c.args.right.scale)) +ℤ c.new-whole.result.rest) = simp to_z-of_z at c.joined.ensures in
    joined ∙ rw added (difference_of-coarser c.args.left c.args.right c.new-whole.result.whole c.new-whole.result.rest c.requires is)

pub returns-in_default : goal.returns-in_default
returns-in_default c =
    let coarse : FitsSigned w128 c.args.right.units = search rules in
    let fine : FitsSigned w128 c.args.left.units = search rules in
    let whole : FitsSigned w128 c.new-whole.result.whole = search rules in
    let is : c.new-whole.result.whole *ℤ pos (10 ^ (c.args.left.scale - c.args.right.scale)) +ℤ c.new-whole.result.rest ≡ c.args.left.units = simp to_z-of_z at c.new-whole.ensures.whole in
    sym (difference_of-coarser_unfit c.args.left c.args.right c.new-whole.result.whole c.new-whole.result.rest c.requires (omega arith) is c.new-whole.ensures.rest
    (λ fits. c.in_default.ensures (rw (to_z-of_z w128 c.new-whole.result.whole whole, to_z-of_z w128 c.args.right.units coarse) fits)))
