use Rattle.std.proofs.Common.{◌∙◌, sym, drop, suc}
use Rattle.dds_logical.specs.Selections.{field_to_test}
use Rattle.dds_logical.specs.Tested.{conditions_at, further_conditions}
use Rattle.dds_logical.proofs.TestedLemmas.{further_goes, further_stop}
use Rattle.dds_logical.proofs.LoopLemmas.{kept-one, kept-ended}
use Rattle.dds_logical.proofs.rules_said.add_further.Goals as goal

pub loop-line-preserved : goal.loop-line-preserved
loop-line-preserved c =
    let find = field_to_test c.args.named.now c.args.base.now in
    kept-one c.loop-line.conditions c.add_if_selection.new.conditions _ (conditions_at find c.line-item.result) (further_conditions find) c.args.lines.now
    c.loop-line.line-index c.line-item.result c.loop-line-test.true c.line-item.is c.in_ok-add_if_selection.ensures
    (further_goes find c.line-item.result (drop (suc c.loop-line.line-index) c.args.lines.now) (sym c.ends_further.ensures ∙ c.if-ends_further.false)) c.loop-line.invariant

pub returns-then-ends_further : goal.returns-then-ends_further
returns-then-ends_further c =
    let find = field_to_test c.args.named.now c.args.base.now in
    kept-ended c.loop-line.conditions _ (further_conditions find) c.args.lines.now c.loop-line.line-index c.line-item.result c.loop-line-test.true c.line-item.is
    (further_stop find c.line-item.result (drop (suc c.loop-line.line-index) c.args.lines.now) (sym c.ends_further.ensures ∙ c.if-ends_further.true)) c.loop-line.invariant
