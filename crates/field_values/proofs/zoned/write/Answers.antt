use Rattle.std.proofs.Common.{ℕ, ◌+◌, ◌-◌, ◌*◌, ◌∙◌, ap, set, refl, arith}
use Rattle.field_values.proofs.WriteLemmas.{zoned-turn, zoned-left}
use Rattle.field_values.proofs.zoned.write.Goals as goal

pub loop-at-preserved : goal.loop-at-preserved
loop-at-preserved c =
    let i = c.loop-at.invariant in
    record {
      in_range = omega arith;
      written = ap (λ (d : ℕ). set c.loop-at.into (c.loop-at.at - 1) (16 * c.loop-at.zone + d)) c.divided-more.ensures.rest ∙ zoned-turn c.args.into.now c.loop-at.into c.loop-at.at c.loop-at.rest c.loop-at.zone _ _ c.loop-at-test.true i.in_range i.written i.digits_left i.sign i.zone;
      digits_left = c.divided-more.ensures.quotient ∙ zoned-left _ c.loop-at.at c.loop-at.rest _ c.loop-at-test.true i.in_range i.digits_left;
      sign = λ e. absurd (omega arith);
      zone = λ lt. refl;
    }
