use Rattle.std.proofs.Common.{◌≡◌, drop, flat_map}
use Rattle.dds_physical.specs.Faults.{first_after}
use Rattle.dds_logical.specs.declared.format_lines.LineKind.TheVariants as line_kinds
use Rattle.dds_logical.specs.Judged.{line_faults_of, field_line_faults}
use Rattle.dds_logical.proofs.fields.note_fields.Given as goal

abbrev pub invariant-loop-line : goal.invariant-loop-line
invariant-loop-line l = first_after l.first.fault (flat_map (line_faults_of line_kinds.Field (field_line_faults l.base)) (drop l.line-index l.lines))
    ≡ first_after l.fn.first.fault (flat_map (line_faults_of line_kinds.Field (field_line_faults l.base)) l.lines)
