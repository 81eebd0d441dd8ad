use Rattle.std.proofs.Common.{◌≡◌, drop}
use Rattle.dds_logical.specs.declared.format_lines.LineKind.TheVariants as line_kinds
use Rattle.dds_logical.specs.Judged.{lines_of, first_line}
use Rattle.dds_logical.specs.Tested.{is_further_line}
use Rattle.dds_logical.proofs.selections.is_further_next.Given as goal

abbrev pub invariant-loop-line : goal.invariant-loop-line
invariant-loop-line l = is_further_line (first_line (lines_of line_kinds.Selection (drop l.line-index l.lines))) ≡ is_further_line (first_line (lines_of line_kinds.Selection l.lines))
