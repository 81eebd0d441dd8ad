-- A passed entry has passed ones before it, one ahead has such after it, and either way half is left.
use Rattle.std.proofs.Common.{arith, ◌-◌, ap, sym, ◌∙◌}
use Rattle.key_pages.specs.Search.{is_passed}
use Rattle.key_pages.proofs.SideLemmas.{passed_upto, ahead_from}
use Rattle.key_pages.proofs.StepLemmas.{left-half, cost-step}
use Rattle.key_pages.proofs.search.place.Goals as goal

pub loop-low-preserved-then-is_passed : goal.loop-low-preserved-then-is_passed
loop-low-preserved-then-is_passed g c = record {
  low_high = omega arith;
  within = c.loop-low.invariant.within;
  passed = passed_upto c.args.itself c.args.falling c.args.from.now c.args.entries.now.items _ c.index.result.now c.requires (omega arith) c.index.ensures (ap (λ side. is_passed c.args.itself side) (sym c.side-side.ensures.side) ∙ sym c.is_passed.ensures ∙ c.if-is_passed.true);
  ahead = c.loop-low.invariant.ahead;
  rises = omega arith;
  left = left-half _ _ c.loop-low.steps _ (c.loop-low.high - c.loop-low.low) _ c.loop-low.invariant.rises c.side-side.ensures.cost c.loop-low.invariant.left (omega arith);
  cost = cost-step _ _ c.loop-low.steps _ (c.loop-low.high - c.loop-low.low) c.loop-low.invariant.rises c.side-side.ensures.cost c.loop-low.invariant.left (omega arith);
}

pub loop-low-preserved : goal.loop-low-preserved
loop-low-preserved g c = record {
  low_high = omega arith;
  within = omega arith;
  passed = c.loop-low.invariant.passed;
  ahead = ahead_from c.args.itself c.args.falling c.args.from.now c.args.entries.now.items _ c.index.result.now c.requires (omega arith) c.index.ensures (ap (λ side. is_passed c.args.itself side) (sym c.side-side.ensures.side) ∙ sym c.is_passed.ensures ∙ c.if-is_passed.false);
  rises = omega arith;
  left = left-half _ _ c.loop-low.steps _ (c.loop-low.high - c.loop-low.low) _ c.loop-low.invariant.rises c.side-side.ensures.cost c.loop-low.invariant.left (omega arith);
  cost = cost-step _ _ c.loop-low.steps _ (c.loop-low.high - c.loop-low.low) c.loop-low.invariant.rises c.side-side.ensures.cost c.loop-low.invariant.left (omega arith);
}
