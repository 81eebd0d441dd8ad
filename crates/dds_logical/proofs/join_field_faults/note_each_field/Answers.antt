use Rattle.std.proofs.Common.{map}
use Rattle.dds_logical.specs.declared.format_lines.LineKind.TheVariants as line_kinds
use Rattle.dds_logical.specs.Bases.{fields_of_file}
use Rattle.dds_logical.specs.Judged.{line_faults_of}
use Rattle.dds_logical.specs.JoinFields.{join_field_faults}
use Rattle.dds_logical.proofs.LoopLemmas.{noted-step}
use Rattle.dds_logical.proofs.join_field_faults.note_each_field.Goals as goal

pub loop-line-preserved : goal.loop-line-preserved
loop-line-preserved g c =
    noted-step c.loop-line.first.fault c.note_join_field.new.first.fault _
    (line_faults_of line_kinds.Field (join_field_faults c.args.files.now (map (fields_of_file (g.B.Bases.bases c.args.bases.now)) c.args.files.now))) c.args.lines.now
    c.loop-line.line-index c.line-item.result c.loop-line-test.true c.line-item.is c.in_ok-note_join_field.ensures c.loop-line.invariant
