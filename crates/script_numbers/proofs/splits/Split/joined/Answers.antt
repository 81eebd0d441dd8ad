use Rattle.std.proofs.Common.{sym, rules, FitsSigned}
use Rattle.std.specs.Int.{w128}
use Rattle.std.proofs.lemmas.Int.{to_z-of_z}
use Rattle.script_numbers.proofs.SplitLemmas.{too-many-units}
use Rattle.script_numbers.proofs.splits.Split.joined.Goals as goal

pub returns-in_default : goal.returns-in_default
returns-in_default c =
    let wholes : FitsSigned w128 c.args.self.whole = search rules in
    let power : FitsSigned w128 c.in_ok-power.field-0 = search rules in
    sym (too-many-units c.args.scale c.args.places c.args.self.whole c.args.self.rest c.requires.places c.requires.rest
    (λ fits. c.in_default.ensures (rw (to_z-of_z w128 c.args.self.whole wholes, to_z-of_z w128 c.in_ok-power.field-0 power, c.in_ok-power.ensures.1) fits)))
