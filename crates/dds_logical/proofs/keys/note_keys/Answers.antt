use Rattle.dds_logical.specs.declared.format_lines.LineKind.TheVariants as line_kinds
use Rattle.dds_logical.specs.Fields.{laid_out}
use Rattle.dds_logical.specs.Keys.{key_line_faults}
use Rattle.dds_logical.specs.Judged.{line_faults_of}
use Rattle.dds_logical.proofs.LoopLemmas.{noted-step}
use Rattle.dds_logical.proofs.keys.note_keys.Goals as goal

pub loop-line-preserved : goal.loop-line-preserved
loop-line-preserved c =
    noted-step c.loop-line.first.fault c.note_key.new.first.fault _ (line_faults_of line_kinds.Key (key_line_faults c.args.is_join c.args.is_multi (laid_out 0 c.args.named.now))) c.args.lines.now
    c.loop-line.line-index c.line-item.result c.loop-line-test.true c.line-item.is c.note_key.ensures c.loop-line.invariant
