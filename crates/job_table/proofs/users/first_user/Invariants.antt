use Rattle.std.proofs.Common.{◌≡◌, ◌+◌, map, drop}
use Rattle.lawful_states.specs.Uses.{first_job}
use Rattle.job_table.specs.Users.{has_in_use}
use Rattle.job_table.proofs.users.first_user.Given as goal

abbrev pub invariant-loop-i : goal.invariant-loop-i
invariant-loop-i l = first_job (has_in_use l.member) (l.i + 1) (map (λ job. job.state) (drop l.i l.jobs)) ≡ first_job (has_in_use l.member) 1 (map (λ job. job.state) l.jobs)
