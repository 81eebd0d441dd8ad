use Rattle.dds_logical.specs.declared.format_lines.LineKind.TheVariants as line_kinds
use Rattle.dds_logical.specs.Judged.{line_faults_of, field_line_faults}
use Rattle.dds_logical.proofs.LoopLemmas.{noted-step}
use Rattle.dds_logical.proofs.fields.note_fields.Goals as goal

pub loop-line-preserved : goal.loop-line-preserved
loop-line-preserved c =
    noted-step c.loop-line.first.fault c.note_field.new.first.fault _ (line_faults_of line_kinds.Field (field_line_faults c.args.base.now)) c.args.lines.now
    c.loop-line.line-index c.line-item.result c.loop-line-test.true c.line-item.is c.in_ok-note_field.ensures c.loop-line.invariant
