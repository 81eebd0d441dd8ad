use Rattle.std.proofs.Common.{◌≡◌, ◌++◌, drop}
use Rattle.std.specs.List.{filter_map}
use Rattle.dds_logical.specs.JudgedKeys.{judged_if}
use Rattle.dds_logical.proofs.keys.judged_parts.Given as goal

abbrev pub invariant-loop-line : goal.invariant-loop-line
invariant-loop-line l = l.parts ++ filter_map (judged_if l.named) (drop l.line-index l.lines) ≡ filter_map (judged_if l.named) l.lines
