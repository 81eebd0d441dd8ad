use Rattle.std.proofs.Common.{◌≡◌, take}
use Rattle.std.specs.List.{sum_by}
use Rattle.job_history.specs.Counting.{value_bytes, capped}
use Rattle.job_history.proofs.counting.values_bytes.Given as goal

abbrev pub invariant-loop-value : goal.invariant-loop-value
invariant-loop-value l = l.bytes ≡ capped (sum_by value_bytes (take l.value-index l.values))
