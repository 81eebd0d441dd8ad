use Rattle.std.proofs.Common.{◌≡◌, drop, flat_map, map}
use Rattle.dds_physical.specs.Faults.{first_after}
use Rattle.dds_logical.specs.declared.format_lines.LineKind.TheVariants as line_kinds
use Rattle.dds_logical.specs.Bases.{fields_of_file}
use Rattle.dds_logical.specs.Judged.{line_faults_of}
use Rattle.dds_logical.specs.JoinLines.{join_line_faults}
use Rattle.dds_logical.proofs.join_lines.note_each_join_line.Given as goal

abbrev pub invariant-loop-line : goal.invariant-loop-line
invariant-loop-line g l =
    first_after l.first.fault (flat_map (line_faults_of line_kinds.Join (join_line_faults l.files (map (fields_of_file (g.B.Bases.bases l.bases)) l.files))) (drop l.line-index l.lines))
    ≡ first_after l.fn.first.fault (flat_map (line_faults_of line_kinds.Join (join_line_faults l.files (map (fields_of_file (g.B.Bases.bases l.bases)) l.files))) l.lines)
