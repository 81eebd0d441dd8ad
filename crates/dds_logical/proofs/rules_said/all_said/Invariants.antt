use Rattle.std.proofs.Common.{◌≡◌, drop}
use Rattle.dds_logical.specs.declared.format_lines.LineKind.TheVariants as line_kinds
use Rattle.dds_logical.specs.Selections.{all_said}
use Rattle.dds_logical.specs.Judged.{lines_of}
use Rattle.dds_logical.proofs.rules_said.all_said.Given as goal

abbrev pub invariant-loop-line : goal.invariant-loop-line
invariant-loop-line l = all_said (lines_of line_kinds.Selection (drop l.line-index l.lines)) ≡ all_said (lines_of line_kinds.Selection l.lines)
