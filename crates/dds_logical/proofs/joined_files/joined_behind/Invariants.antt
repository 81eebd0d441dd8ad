use Rattle.std.proofs.Common.{◌≡◌, ◌+◌, ◌++◌, length, map}
use Rattle.dds_logical.specs.declared.format_lines.LineKind.TheVariants as line_kinds
use Rattle.dds_logical.specs.Bases.{fields_of_file}
use Rattle.dds_logical.specs.Judged.{lines_of}
use Rattle.dds_logical.specs.JoinLines.{joined_from}
use Rattle.dds_logical.proofs.joined_files.joined_behind.Given as goal

abbrev pub invariant-loop-rest : goal.invariant-loop-rest
invariant-loop-rest g l = (l.place + length l.rest ≡ 1 + length l.secondaries)
    × (l.joined ++ joined_from l.files (map (fields_of_file (g.B.Bases.bases l.bases)) l.files) (lines_of line_kinds.Join l.lines) l.place l.rest
    ≡ joined_from l.files (map (fields_of_file (g.B.Bases.bases l.bases)) l.files) (lines_of line_kinds.Join l.lines) 1 l.secondaries)

abbrev pub decreases-loop-rest : goal.decreases-loop-rest
decreases-loop-rest g l = length l.rest
