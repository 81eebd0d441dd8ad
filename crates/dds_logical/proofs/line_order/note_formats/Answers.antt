use Rattle.std.proofs.Common.{arith, flat_map}
use Rattle.dds_logical.specs.FormatLines.{formats_in}
use Rattle.dds_logical.specs.Judged.{order_faults_of, faults_at}
use Rattle.dds_logical.proofs.FormatLemmas.{faults_more}
use Rattle.dds_logical.proofs.LoopLemmas.{noted-split}
use Rattle.dds_logical.proofs.line_order.note_formats.Goals as goal

pub loop-rest-preserved : goal.loop-rest-preserved
loop-rest-preserved c =
    noted-split c.loop-rest.first.fault c.note_format.new.first.fault _ (faults_at (order_faults_of c.args.is_join)) (λ ss. flat_map (order_faults_of c.args.is_join) (formats_in ss))
    (faults_more (order_faults_of c.args.is_join)) c.loop-rest.rest.now c.split_at.result.0.now c.split_at.result.1.now c.index-here-0.result
    (omega (arith, c.split_at.ensures.back_len)) c.split_at.ensures.front c.split_at.ensures.back c.index-here-0.is c.note_format.ensures c.loop-rest.invariant
