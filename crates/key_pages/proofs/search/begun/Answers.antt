-- Either way half is left.
use Rattle.std.proofs.Common.{◌∙◌, ◌-◌, Bool, List, ap, sym, arith}
use Rattle.key_pages.specs.declared.entries.Entry.{Entry}
use Rattle.key_pages.specs.PageList.{page_at, begins_passed}
use Rattle.key_pages.proofs.StepLemmas.{left-half, cost-step}
use Rattle.key_pages.proofs.search.begun.Goals as goal

pub loop-low-preserved-then-begins_passed : goal.loop-low-preserved-then-begins_passed
loop-low-preserved-then-begins_passed g c =
    let passes : List Entry → Bool = λ page. begins_passed c.args.itself c.args.falling c.args.from.now page in
    record {
      low_high = omega arith;
      within = c.loop-low.invariant.within;
      passed = λ _.
          ap (λ n. passes (page_at c.args.pages.now.items n)) (omega arith)
          ∙ (ap passes (sym c.page.ensures)
          ∙ (sym c.begins_passed.ensures.passed ∙ c.if-begins_passed.true));
      ahead = c.loop-low.invariant.ahead;
      rises = omega arith;
      left = left-half _ _ c.loop-low.steps _ (c.loop-low.high - c.loop-low.low) _ c.loop-low.invariant.rises c.begins_passed.ensures.cost c.loop-low.invariant.left (omega arith);
      cost = cost-step _ _ c.loop-low.steps _ (c.loop-low.high - c.loop-low.low) c.loop-low.invariant.rises c.begins_passed.ensures.cost c.loop-low.invariant.left (omega arith);
    }

pub loop-low-preserved : goal.loop-low-preserved
loop-low-preserved g c =
    let passes : List Entry → Bool = λ page. begins_passed c.args.itself c.args.falling c.args.from.now page in
    record {
      low_high = omega arith;
      within = omega arith;
      passed = c.loop-low.invariant.passed;
      ahead = λ _.
          ap passes (sym c.page.ensures)
          ∙ (sym c.begins_passed.ensures.passed ∙ c.if-begins_passed.false);
      rises = omega arith;
      left = left-half _ _ c.loop-low.steps _ (c.loop-low.high - c.loop-low.low) _ c.loop-low.invariant.rises c.begins_passed.ensures.cost c.loop-low.invariant.left (omega arith);
      cost = cost-step _ _ c.loop-low.steps _ (c.loop-low.high - c.loop-low.low) c.loop-low.invariant.rises c.begins_passed.ensures.cost c.loop-low.invariant.left (omega arith);
    }
