use Rattle.std.proofs.Common.{◌≡◌, ◌+◌, ◌∙◌, ap, arith, ◌^◌}
use Rattle.decimal_order.proofs.PowerLemmas.{get_or-powers, fits, fits-not}
use Rattle.decimal_order.proofs.powers.power_of_ten.Goals as goal

pub returns-then-digits-lt39 : goal.returns-then-digits-lt39
returns-then-digits-lt39 c = (
  fits c.args.digits (omega (arith, c.from-digits.ensures, c.if-digits-lt39.true)),
  get_or-powers 0 39 c.from-digits.result _ c.if-digits-lt39.true ∙ ap (λ k. 10 ^ k) (let e : 0 + c.from-digits.result ≡ c.args.digits = omega (arith, c.from-digits.ensures) in e),
)

pub returns-else-digits-lt39 : goal.returns-else-digits-lt39
returns-else-digits-lt39 c = fits-not c.args.digits (omega (arith, c.from-digits.ensures, c.if-digits-lt39.false))
