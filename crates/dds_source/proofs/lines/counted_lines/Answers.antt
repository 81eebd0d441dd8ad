use Rattle.std.proofs.Common.{rules}
use Rattle.dds_source.specs.Lines.{counted_lines}
use Rattle.dds_source.proofs.LineLemmas.{lines_more}
use Rattle.dds_source.proofs.lines.counted_lines.Goals as goal

pub loop-line-init : goal.loop-line-init
unfolding counted_lines
loop-line-init c = search rules

pub loop-line-preserved : goal.loop-line-preserved
loop-line-preserved c =
    rw (c.in_ok-push_counted.ensures, c.new.ensures, c.next_number-number.ensures)
    (lines_more c.loop-line.lines.items c.loop-line.number c.loop-line.rest.now c.in-Some.line.now c.in-Some.more.now (counted_lines c.args.text.now) c.in-Some.ensures.0 c.loop-line.invariant)
