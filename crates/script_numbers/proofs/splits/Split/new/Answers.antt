use Rattle.std.proofs.Common.{◌^◌, arith, rules, FitsSigned}
use Rattle.std.specs.Int.{w128}
use Rattle.std.proofs.lemmas.Int.{to_z-of_z}
use Rattle.script_numbers.proofs.SplitLemmas.{some-power, divided, rest-below, rest-above}
use Rattle.script_numbers.proofs.splits.Split.new.Goals as goal

pub nonzero_div-result : goal.nonzero_div-result
nonzero_div-result c =
    let units : FitsSigned w128 c.args.units = search rules in
    let power : FitsSigned w128 c.in-Some.power = search rules in
    divided c.args.units c.in-Some.power (10 ^ c.args.places) units power c.in-Some.ensures.1 (some-power c.args.places)

pub nonzero_rem-result : goal.nonzero_rem-result
nonzero_rem-result c =
    let units : FitsSigned w128 c.args.units = search rules in
    let power : FitsSigned w128 c.in-Some.power = search rules in
    divided c.args.units c.in-Some.power (10 ^ c.args.places) units power c.in-Some.ensures.1 (some-power c.args.places)

pub returns-in-Some-clause-rest : goal.returns-in-Some-clause-rest
returns-in-Some-clause-rest c =
    let units : FitsSigned w128 c.args.units = search rules in
    let power : FitsSigned w128 c.in-Some.power = search rules in
    rest-below c.args.units c.in-Some.power (10 ^ c.args.places) units power c.in-Some.ensures.1 (some-power c.args.places)

pub returns-in-None-clause-rest : goal.returns-in-None-clause-rest
returns-in-None-clause-rest c =
    let units : FitsSigned w128 c.args.units = search rules in
    rw (to_z-of_z w128 c.args.units units) (rest-above c.args.units c.args.places units (omega (arith, c.in-None.ensures)))
