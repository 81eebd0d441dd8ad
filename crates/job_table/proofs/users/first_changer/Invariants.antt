use Rattle.std.proofs.Common.{◌≡◌, ◌+◌, map, drop}
use Rattle.lawful_states.specs.Uses.{first_job, has_changed}
use Rattle.job_table.proofs.users.first_changer.Given as goal

abbrev pub invariant-loop-i : goal.invariant-loop-i
invariant-loop-i l =
    first_job (λ number job. has_changed l.member job) (l.i + 1) (map (λ job. job.state) (drop l.i l.jobs))
    ≡ first_job (λ number job. has_changed l.member job) 1 (map (λ job. job.state) l.jobs)
