use Rattle.std.proofs.Common.{◌≡◌, ◌++◌, length}
use Rattle.std.specs.Prelude.{filter}
use Rattle.text_lines.specs.Lines.{lines_of}
use Rattle.dds_source.specs.Lines.{counts, numbered, counted_lines}
use Rattle.dds_source.proofs.lines.counted_lines.Given as goal

abbrev pub invariant-loop-line : goal.invariant-loop-line
invariant-loop-line l = l.lines.items ++ filter counts (numbered l.number (lines_of l.rest)) ≡ counted_lines l.fn.text

abbrev pub decreases-loop-line : goal.decreases-loop-line
decreases-loop-line l = length l.rest
