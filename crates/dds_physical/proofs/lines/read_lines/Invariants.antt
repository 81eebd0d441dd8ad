use Rattle.std.proofs.Common.{length, ◌≡◌}
use Rattle.dds_physical.specs.Lines.{lines_faults, lines_described}
use Rattle.dds_physical.proofs.lines.read_lines.Given as goal

abbrev pub invariant-loop-rest : goal.invariant-loop-rest
invariant-loop-rest g l = record {
  judged : lines_faults (g.R.Refs.formats l.refs) l.file l.draft l.rest ≡ lines_faults (g.R.Refs.formats l.refs) l.file l.fn.draft l.specifications;
  described : lines_described (g.R.Refs.formats l.refs) l.file l.draft l.rest ≡ lines_described (g.R.Refs.formats l.refs) l.file l.fn.draft l.specifications;
}

abbrev pub decreases-loop-rest : goal.decreases-loop-rest
decreases-loop-rest g l = length l.rest
