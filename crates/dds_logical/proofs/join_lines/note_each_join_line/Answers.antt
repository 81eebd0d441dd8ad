use Rattle.std.proofs.Common.{map}
use Rattle.dds_logical.specs.declared.format_lines.LineKind.TheVariants as line_kinds
use Rattle.dds_logical.specs.Bases.{fields_of_file}
use Rattle.dds_logical.specs.Judged.{line_faults_of}
use Rattle.dds_logical.specs.JoinLines.{join_line_faults}
use Rattle.dds_logical.proofs.LoopLemmas.{noted-step}
use Rattle.dds_logical.proofs.join_lines.note_each_join_line.Goals as goal

pub loop-line-preserved : goal.loop-line-preserved
loop-line-preserved g c =
    noted-step c.loop-line.first.fault c.note_join_line.new.first.fault _
    (line_faults_of line_kinds.Join (join_line_faults c.args.files.now (map (fields_of_file (g.B.Bases.bases c.args.bases.now)) c.args.files.now))) c.args.lines.now
    c.loop-line.line-index c.line-item.result c.loop-line-test.true c.line-item.is c.note_join_line.ensures c.loop-line.invariant
