use Rattle.std.proofs.Common.{◌≡◌, ◌+◌, length}
use Rattle.dds_logical.specs.declared.format_lines.LineKind.TheVariants as line_kinds
use Rattle.dds_logical.specs.Judged.{lines_of}
use Rattle.dds_logical.specs.JoinLines.{is_one_unreached}
use Rattle.dds_logical.proofs.join_lines.one_is_unreached.Given as goal

abbrev pub invariant-loop-rest : goal.invariant-loop-rest
invariant-loop-rest l = (l.place + length l.rest ≡ 1 + length l.secondaries)
    × (is_one_unreached l.files (lines_of line_kinds.Join l.lines) l.place l.rest ≡ is_one_unreached l.files (lines_of line_kinds.Join l.lines) 1 l.secondaries)

abbrev pub decreases-loop-rest : goal.decreases-loop-rest
decreases-loop-rest l = length l.rest
