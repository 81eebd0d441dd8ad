use Rattle.std.proofs.Common.{◌≡◌, ◌++◌, drop}
use Rattle.std.specs.List.{filter_map}
use Rattle.dds_logical.specs.JudgedKeys.{part_if}
use Rattle.dds_logical.proofs.layout.parts_of_lines.Given as goal

abbrev pub invariant-loop-line : goal.invariant-loop-line
invariant-loop-line l = l.parts ++ filter_map (part_if l.fields) (drop l.line-index l.lines) ≡ filter_map (part_if l.fields) l.lines
