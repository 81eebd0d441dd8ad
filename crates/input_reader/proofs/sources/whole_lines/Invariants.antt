use Rattle.std.proofs.Common.{◌≡◌, ◌++◌, length}
use Rattle.text_lines.specs.Lines.{lines_of, text_of_lines}
use Rattle.input_reader.proofs.sources.whole_lines.Given as goal

abbrev pub invariant-loop-line : goal.invariant-loop-line
invariant-loop-line l = l.lines ++ text_of_lines (lines_of l.rest) ≡ text_of_lines (lines_of l.text)

abbrev pub decreases-loop-line : goal.decreases-loop-line
decreases-loop-line l = length l.rest
