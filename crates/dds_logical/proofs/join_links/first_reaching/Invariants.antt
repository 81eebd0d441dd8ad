use Rattle.std.proofs.Common.{◌≡◌, filter, length}
use Rattle.dds_logical.specs.Judged.{first_line}
use Rattle.dds_logical.specs.JoinSteps.{reaches}
use Rattle.dds_logical.proofs.join_links.first_reaching.Given as goal

abbrev pub invariant-loop-rest : goal.invariant-loop-rest
invariant-loop-rest l = first_line (filter (λ s. reaches l.files l.place s) l.rest) ≡ first_line (filter (λ s. reaches l.files l.place s) l.lines)

abbrev pub decreases-loop-rest : goal.decreases-loop-rest
decreases-loop-rest l = length l.rest
