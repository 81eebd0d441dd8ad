use Rattle.std.proofs.Common.{◌∙◌, ap, is_some, rules, FitsSigned}
use Rattle.std.specs.Int.{w128}
use Rattle.std.proofs.lemmas.Int.{to_z-of_z}
use Rattle.field_laws.specs.FieldBytes.{held, as_held}
use Rattle.field_laws.proofs.WrittenLemmas.{stands-written}
use Rattle.key_order.proofs.positions.number_given.Goals as goal

pub number_held-requires-clause-there : goal.number_held-requires-clause-there
number_held-requires-clause-there c =
    ap (λ w. is_some (held c.args.ty.now w)) c.in-Ok.ensures.written ∙ ap is_some (stands-written c.args.ty.now c.args.value.now c.requires.allowed c.requires.fits)

pub returns-clause-value : goal.returns-clause-value
returns-clause-value c =
    let fits : FitsSigned w128 c.number_held.result = search rules in
    simp to_z-of_z (c.number_held.ensures.value (as_held c.args.ty.now c.args.value.now)
    (ap (held c.args.ty.now) c.in-Ok.ensures.written ∙ stands-written c.args.ty.now c.args.value.now c.requires.allowed c.requires.fits))
