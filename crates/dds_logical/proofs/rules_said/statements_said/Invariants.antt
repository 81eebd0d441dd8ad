use Rattle.std.proofs.Common.{◌≡◌, ◌++◌, length}
use Rattle.dds_logical.specs.declared.format_lines.LineKind.TheVariants as line_kinds
use Rattle.dds_logical.specs.Selections.{field_to_test, statements_said}
use Rattle.dds_logical.specs.Judged.{lines_of}
use Rattle.dds_logical.proofs.rules_said.statements_said.Given as goal

abbrev pub invariant-loop-rest : goal.invariant-loop-rest
invariant-loop-rest l = l.statements ++ statements_said (field_to_test l.named l.base) (lines_of line_kinds.Selection l.rest)
    ≡ statements_said (field_to_test l.named l.base) (lines_of line_kinds.Selection l.lines)

abbrev pub decreases-loop-rest : goal.decreases-loop-rest
decreases-loop-rest l = length l.rest
