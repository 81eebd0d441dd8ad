use Rattle.std.proofs.Common.{◌≡◌, drop}
use Rattle.dds_logical.specs.Judged.{lines_of, first_line}
use Rattle.dds_logical.proofs.fields.line_beyond.Given as goal

abbrev pub invariant-loop-line : goal.invariant-loop-line
invariant-loop-line l = first_line (drop l.left (lines_of l.kind (drop l.line-index l.lines))) ≡ first_line (drop l.most (lines_of l.kind l.lines))
