use Rattle.std.proofs.Common.{drop, suc}
use Rattle.dds_logical.specs.Selections.{field_to_test}
use Rattle.dds_logical.specs.Tested.{condition_of, conditions_of}
use Rattle.dds_logical.proofs.TestedLemmas.{conditions_more}
use Rattle.dds_logical.proofs.LoopLemmas.{kept-one}
use Rattle.dds_logical.proofs.rules_said.add_conditions.Goals as goal

pub loop-keyword-preserved : goal.loop-keyword-preserved
loop-keyword-preserved c =
    let find = field_to_test c.args.named.now c.args.base.now in
    let keywords = c.as_slice-keywords.result.now in
    kept-one c.loop-keyword.conditions c.add_condition.new.conditions _ (condition_of find c.args.line.now c.keyword-item.result) (conditions_of find c.args.line.now) keywords
    c.loop-keyword.keyword-index c.keyword-item.result c.loop-keyword-test.true c.keyword-item.is c.in_ok-add_condition.ensures
    (conditions_more find c.args.line.now c.keyword-item.result (drop (suc c.loop-keyword.keyword-index) keywords)) c.loop-keyword.invariant
