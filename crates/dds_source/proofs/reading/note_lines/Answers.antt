use Rattle.std.proofs.Common.{arith}
use Rattle.dds_source.specs.Entries.{line_faults}
use Rattle.dds_source.proofs.ReadingLemmas.{noted_more}
use Rattle.dds_source.proofs.reading.note_lines.Goals as goal

pub loop-line-preserved : goal.loop-line-preserved
loop-line-preserved c = noted_more line_faults c.args.lines.now c.loop-line.line-index _ c.loop-line.first.fault c.note_faults.new.first.fault _ (omega arith) c.note_faults.ensures c.loop-line.invariant
