use Rattle.std.proofs.Common.{◌∙◌, rules, FitsSigned, to_z}
use Rattle.std.specs.Int.{w128}
use Rattle.script_numbers.proofs.ZeroLemmas.{trimmed-divided}
use Rattle.script_numbers.proofs.zeros.without_zeros.Goals as goal

pub loop-scale-preserved : goal.loop-scale-preserved
loop-scale-preserved c =
    let fits : FitsSigned w128 (to_z w128 c.loop-scale.units-bits) = search rules in
    trimmed-divided c.loop-scale.scale (to_z w128 c.loop-scale.units-bits) fits c.loop-scale-test.true c.if-units-eq0.true
    ∙ c.loop-scale.invariant
