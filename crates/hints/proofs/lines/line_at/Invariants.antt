use Rattle.std.proofs.Common.{◌≡◌}
use Rattle.text_lines.specs.Lines.{lines_of}
use Rattle.hints.specs.Shown.{line_of}
use Rattle.hints.proofs.lines.line_at.Given as goal

abbrev pub invariant-loop-left : goal.invariant-loop-left
invariant-loop-left l = line_of (lines_of l.rest) l.left ≡ line_of (lines_of l.input) l.number

abbrev pub decreases-loop-left : goal.decreases-loop-left
decreases-loop-left l = l.left
