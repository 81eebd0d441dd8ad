use Rattle.std.proofs.Common.{◌==◌, ◌^◌, refl}
use Rattle.decimal_order.proofs.PowerLemmas.{SomeIff-great_power}
use Rattle.decimal_order.proofs.powers.widened.Goals as goal

pub returns-in-None : goal.returns-in-None
returns-in-None c = rw c.then_some.ensures (SomeIff-great_power c.args.magnitude (10 ^ c.args.digits) (c.args.magnitude == 0) refl c.in-None.ensures)
