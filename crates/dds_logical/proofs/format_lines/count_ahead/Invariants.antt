use Rattle.std.proofs.Common.{◌≡◌, ◌≤◌, ◌+◌, drop}
use Rattle.std.specs.List.{prefix_len}
use Rattle.dds_logical.specs.Judged.{stands_within}
use Rattle.dds_logical.proofs.format_lines.count_ahead.Given as goal

abbrev pub invariant-loop-line : goal.invariant-loop-line
invariant-loop-line l = (l.count ≤ l.line-index) × (l.count + prefix_len stands_within (drop l.line-index l.lines) ≡ prefix_len stands_within l.lines)
