use Rattle.dds_logical.specs.declared.format_lines.LineKind.TheVariants as line_kinds
use Rattle.dds_logical.specs.Judged.{line_faults_of}
use Rattle.dds_logical.specs.JoinSteps.{key_place_faults}
use Rattle.dds_logical.proofs.LoopLemmas.{noted-step}
use Rattle.dds_logical.proofs.join_field_faults.note_each_primary_key.Goals as goal

pub loop-line-preserved : goal.loop-line-preserved
loop-line-preserved c =
    noted-step c.loop-line.first.fault c.note_primary_key.new.first.fault _ (line_faults_of line_kinds.Key (key_place_faults c.args.named.now c.args.places.now)) c.args.lines.now
    c.loop-line.line-index c.line-item.result c.loop-line-test.true c.line-item.is c.note_primary_key.ensures c.loop-line.invariant
