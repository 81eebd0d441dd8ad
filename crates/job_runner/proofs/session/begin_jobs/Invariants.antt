use Rattle.std.proofs.Common.{take}
use Rattle.job_runner.specs.Places.{BeginsJobs}
use Rattle.job_runner.proofs.session.begin_jobs.Given as goal

abbrev pub invariant-loop-name : goal.invariant-loop-name
invariant-loop-name g l = BeginsJobs g.S.Store.tells g.S.Store.disk l.fn.library l.library (take l.name-index l.names)
