use Rattle.field_values.proofs.MomentLemmas.{IsBadPart-spelled, spells-part, part-range}
use Rattle.std.proofs.Common.{◌∙◌, ◌+◌, ◌-◌, ap, take, drop, map}
use Rattle.field_values.specs.Digits.{number_in, low_half}
use Rattle.field_values.proofs.moments.number.Goals as goal

pub returns-in-Some-clause-bad : goal.returns-in-Some-clause-bad
returns-in-Some-clause-bad c =
    IsBadPart-spelled c.args.low c.args.high c.args.from c.args.width c.args.text.now (take (c.args.from + c.args.width - c.args.from) (drop c.args.from c.args.text.now)) c.in-Some.at
    (part-range c.args.from c.args.width c.args.text.now) c.requires.room c.type_inv.text c.in-Some.ensures

pub returns-in-None-clause-number : goal.returns-in-None-clause-number
returns-in-None-clause-number c = (
  spells-part c.args.low c.args.high c.args.from c.args.width c.args.text.now (take (c.args.from + c.args.width - c.args.from) (drop c.args.from c.args.text.now))
      (part-range c.args.from c.args.width c.args.text.now) c.requires.room c.type_inv.text c.in-None.ensures,
  c.number.ensures.value ∙ ap (λ w. number_in 10 (map low_half w)) (part-range c.args.from c.args.width c.args.text.now),
)
