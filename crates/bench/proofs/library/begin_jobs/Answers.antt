use Rattle.std.proofs.Common.{arith}
use Rattle.bench.proofs.ReadyLemmas.{HasBegun-length, HasBegun-more}
use Rattle.bench.proofs.library.begin_jobs.Goals as goal

pub begin_job-requires : goal.begin_job-requires
begin_job-requires c = omega (arith, HasBegun-length c.loop.counter c.loop.library c.loop.invariant, c.loop-test.true, c.ranges.jobs.fits)

pub loop-preserved : goal.loop-preserved
loop-preserved c = HasBegun-more c.loop.counter c.args.name.now c.loop.library c.begin_job.new.self c.loop.invariant c.in_ok-begin_job.ensures.begun c.in_ok-begin_job.ensures.failed
