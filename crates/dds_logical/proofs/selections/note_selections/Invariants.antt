use Rattle.std.proofs.Common.{◌≡◌, length}
use Rattle.dds_physical.specs.Faults.{first_after}
use Rattle.dds_logical.specs.declared.format_lines.LineKind.TheVariants as line_kinds
use Rattle.dds_logical.specs.Selections.{field_to_test, selection_lines_faults}
use Rattle.dds_logical.specs.Judged.{lines_of}
use Rattle.dds_logical.proofs.selections.note_selections.Given as goal

abbrev pub invariant-loop-rest : goal.invariant-loop-rest
invariant-loop-rest l = first_after l.first.fault (selection_lines_faults (field_to_test l.named l.base) (lines_of line_kinds.Selection l.rest))
    ≡ first_after l.fn.first.fault (selection_lines_faults (field_to_test l.named l.base) (lines_of line_kinds.Selection l.lines))

abbrev pub decreases-loop-rest : goal.decreases-loop-rest
decreases-loop-rest l = length l.rest
