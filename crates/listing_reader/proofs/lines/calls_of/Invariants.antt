use Rattle.std.proofs.Common.{◌≡◌, ◌++◌, length}
use Rattle.text_lines.specs.Lines.{lines_of}
use Rattle.listing_reader.specs.Lines.{calls_of}
use Rattle.listing_reader.proofs.lines.calls_of.Given as goal

abbrev pub invariant-loop-line : goal.invariant-loop-line
invariant-loop-line l = l.calls.items ++ calls_of l.names (lines_of l.rest) ≡ calls_of l.names (lines_of l.text)

abbrev pub decreases-loop-line : goal.decreases-loop-line
decreases-loop-line l = length l.rest
