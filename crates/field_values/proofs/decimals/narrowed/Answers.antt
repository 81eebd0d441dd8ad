use Rattle.std.proofs.Common.{◌^◌, ◌==◌, refl, arith}
use Rattle.field_values.proofs.ScaleLemmas.{some-power, SomeIff-high_power}
use Rattle.field_values.proofs.decimals.narrowed.Goals as goal

pub returns-in_default : goal.returns-in_default
returns-in_default c = rw c.then_some.ensures (SomeIff-high_power c.args.magnitude (10 ^ c.args.digits) (c.args.magnitude == 0) refl c.ranges.magnitude.fits c.in_default.ensures)

pub divided-quotient-requires : goal.divided-quotient-requires
divided-quotient-requires c = omega (arith, some-power c.args.digits, c.in-Some.ensures.1)
