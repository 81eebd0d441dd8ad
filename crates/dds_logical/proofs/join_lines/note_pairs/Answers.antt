use Rattle.dds_logical.specs.JoinLines.{pair_faults}
use Rattle.dds_logical.proofs.LoopLemmas.{noted-step}
use Rattle.dds_logical.proofs.join_lines.note_pairs.Goals as goal

pub loop-keyword-preserved : goal.loop-keyword-preserved
loop-keyword-preserved c =
    noted-step c.loop-keyword.first.fault c.note_pair.new.first.fault _ (pair_faults c.args.from.now c.args.to.now) c.args.keywords.now
    c.loop-keyword.keyword-index c.keyword-item.result c.loop-keyword-test.true c.keyword-item.is c.note_pair.ensures c.loop-keyword.invariant
