use Rattle.std.proofs.Common.{◌≡◌, ◌++◌, length}
use Rattle.std.specs.List.{flat_map}
use Rattle.text_lines.specs.Lines.{lines_of}
use Rattle.display.specs.Display.{source_line}
use Rattle.display.proofs.files.push_source.Given as goal

abbrev pub invariant-loop-line : goal.invariant-loop-line
invariant-loop-line l = l.out.items ++ flat_map source_line (lines_of l.rest) ≡ l.fn.out.items ++ flat_map source_line (lines_of l.text)

abbrev pub decreases-loop-line : goal.decreases-loop-line
decreases-loop-line l = length l.rest
