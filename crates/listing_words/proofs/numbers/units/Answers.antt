use Rattle.std.proofs.Common.{None, arith}
use Rattle.listing_words.specs.Values.{units, units_after}
use Rattle.listing_words.proofs.ReadLemmas.{next-units}
use Rattle.listing_words.proofs.numbers.units.Goals as goal

pub returns-in_default-clause-spelled : goal.returns-in_default-clause-spelled
unfolding units
returns-in_default-clause-spelled c =
    next-units c.args.limit c.loop-digit.number c.loop-digit.digit-index c.args.text.now (λ rest. None) (units_after c.args.limit 0 c.args.text.now)
    (omega arith) c.in_default.ensures.step c.loop-digit.invariant.0

pub loop-digit-preserved : goal.loop-digit-preserved
loop-digit-preserved c = (
  next-units c.args.limit c.loop-digit.number c.loop-digit.digit-index c.args.text.now (units_after c.args.limit c.in-Some.next) (units_after c.args.limit 0 c.args.text.now)
      (omega arith) c.in-Some.ensures.step c.loop-digit.invariant.0,
  c.in-Some.ensures.small,
)
