use Rattle.std.proofs.Common.{◌≡◌, take, length}
use Rattle.std.specs.List.{sum_by}
use Rattle.entry_codec.specs.Spelling.{spelling}
use Rattle.job_history.specs.Counting.{capped}
use Rattle.job_history.proofs.counting.entries_bytes.Given as goal

abbrev pub invariant-loop-entry : goal.invariant-loop-entry
invariant-loop-entry l = l.bytes ≡ capped (sum_by (λ entry. length (spelling entry)) (take l.entry-index l.entries))
