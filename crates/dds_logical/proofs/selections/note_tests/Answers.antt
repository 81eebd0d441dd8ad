use Rattle.dds_logical.specs.Selections.{field_to_test, test_faults}
use Rattle.dds_logical.proofs.LoopLemmas.{noted-step}
use Rattle.dds_logical.proofs.selections.note_tests.Goals as goal

pub loop-keyword-preserved : goal.loop-keyword-preserved
loop-keyword-preserved c =
    noted-step c.loop-keyword.first.fault c.note_test.new.first.fault _ (test_faults (field_to_test c.args.named.now c.args.base.now) c.args.ty.now) c.args.keywords.now
    c.loop-keyword.keyword-index c.keyword-item.result c.loop-keyword-test.true c.keyword-item.is c.in_ok-note_test.ensures c.loop-keyword.invariant
