use Rattle.std.proofs.Common.{arith, flat_map}
use Rattle.dds_logical.specs.FormatLines.{formats_in}
use Rattle.dds_logical.specs.JoinViews.{join_faults}
use Rattle.dds_logical.specs.Judged.{faults_at}
use Rattle.dds_logical.proofs.FormatLemmas.{faults_more}
use Rattle.dds_logical.proofs.LoopLemmas.{noted-split}
use Rattle.dds_logical.proofs.join_faults.note_joins.Goals as goal

pub loop-rest-preserved : goal.loop-rest-preserved
loop-rest-preserved g c =
    let wrong = join_faults (g.B.Bases.bases c.args.bases.now) c.args.last_line in
    noted-split c.loop-rest.first.fault c.note_join_at.new.first.fault _ (faults_at wrong) (λ ss. flat_map wrong (formats_in ss))
    (faults_more wrong) c.loop-rest.rest.now c.split_at.result.0.now c.split_at.result.1.now c.index-here-0.result
    (omega (arith, c.split_at.ensures.back_len)) c.split_at.ensures.front c.split_at.ensures.back c.index-here-0.is c.in_ok-note_join_at.ensures c.loop-rest.invariant
