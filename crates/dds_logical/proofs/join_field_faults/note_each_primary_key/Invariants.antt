use Rattle.std.proofs.Common.{◌≡◌, drop, flat_map}
use Rattle.dds_physical.specs.Faults.{first_after}
use Rattle.dds_logical.specs.declared.format_lines.LineKind.TheVariants as line_kinds
use Rattle.dds_logical.specs.Judged.{line_faults_of}
use Rattle.dds_logical.specs.JoinSteps.{key_place_faults}
use Rattle.dds_logical.proofs.join_field_faults.note_each_primary_key.Given as goal

abbrev pub invariant-loop-line : goal.invariant-loop-line
invariant-loop-line l = first_after l.first.fault (flat_map (line_faults_of line_kinds.Key (key_place_faults l.named l.places)) (drop l.line-index l.lines))
    ≡ first_after l.fn.first.fault (flat_map (line_faults_of line_kinds.Key (key_place_faults l.named l.places)) l.lines)
