use Rattle.std.proofs.Common.{◌≡◌, ◌≤◌, length, map, drop}
use Rattle.lawful_states.specs.Checkpoint.{least_of}
use Rattle.job_table.specs.Users.{cycle_starts}
use Rattle.job_table.proofs.users.first_cycle.Given as goal

abbrev pub invariant-loop-left : goal.invariant-loop-left
invariant-loop-left l = record {
  within : l.left ≤ length l.jobs;
  least : l.first ≡ least_of (cycle_starts (map (λ job. job.state) (drop l.left l.jobs)));
}

abbrev pub decreases-loop-left : goal.decreases-loop-left
decreases-loop-left l = l.left
