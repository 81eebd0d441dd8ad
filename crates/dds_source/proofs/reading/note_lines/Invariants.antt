use Rattle.std.proofs.Common.{◌≡◌, drop}
use Rattle.std.specs.List.{flat_map}
use Rattle.dds_source.specs.Faults.{first_after}
use Rattle.dds_source.specs.Entries.{line_faults}
use Rattle.dds_source.proofs.reading.note_lines.Given as goal

abbrev pub invariant-loop-line : goal.invariant-loop-line
invariant-loop-line l = first_after l.first.fault (flat_map line_faults (drop l.line-index l.lines)) ≡ first_after l.fn.first.fault (flat_map line_faults l.lines)
