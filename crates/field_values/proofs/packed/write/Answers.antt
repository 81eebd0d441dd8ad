use Rattle.std.proofs.Common.{◌≡◌, ℕ, ◌+◌, ◌-◌, ◌*◌, ◌/◌, ◌%◌, ◌∙◌, ap, set, arith}
use Rattle.field_values.proofs.WriteLemmas.{packed-turn, packed-left}
use Rattle.field_values.proofs.packed.write.Goals as goal

pub loop-at-preserved : goal.loop-at-preserved
loop-at-preserved c =
    let i = c.loop-at.invariant in
    let pair : 16 * (c.divided-more.result.1 / 10) + c.divided-more.result.1 % 10 ≡ 16 * (c.loop-at.rest / 10 % 10) + c.loop-at.rest % 10 = omega (arith, c.divided-more.ensures.rest) in
    record {
      in_range = omega arith;
      written = ap (λ (d : ℕ). set c.loop-at.into (c.loop-at.at - 1) d) pair ∙ packed-turn c.args.into.now c.loop-at.into c.loop-at.at c.loop-at.rest _ _ c.loop-at-test.true i.in_range i.written i.digits_left;
      digits_left = c.divided-more.ensures.quotient ∙ packed-left _ c.loop-at.at c.loop-at.rest _ c.loop-at-test.true i.in_range i.digits_left;
    }
