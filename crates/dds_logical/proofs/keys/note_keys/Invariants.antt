use Rattle.std.proofs.Common.{◌≡◌, drop, flat_map}
use Rattle.dds_physical.specs.Faults.{first_after}
use Rattle.dds_logical.specs.declared.format_lines.LineKind.TheVariants as line_kinds
use Rattle.dds_logical.specs.Fields.{laid_out}
use Rattle.dds_logical.specs.Keys.{key_line_faults}
use Rattle.dds_logical.specs.Judged.{line_faults_of}
use Rattle.dds_logical.proofs.keys.note_keys.Given as goal

abbrev pub invariant-loop-line : goal.invariant-loop-line
invariant-loop-line l = first_after l.first.fault (flat_map (line_faults_of line_kinds.Key (key_line_faults l.is_join l.is_multi (laid_out 0 l.named))) (drop l.line-index l.lines))
    ≡ first_after l.fn.first.fault (flat_map (line_faults_of line_kinds.Key (key_line_faults l.is_join l.is_multi (laid_out 0 l.named))) l.lines)
