use Rattle.job_table.proofs.TableLemmas.{begun}
use Rattle.job_table.proofs.jobs.Jobs.begin.Goals as goal

pub invariant_of-self-2 : goal.invariant_of-self-2
invariant_of-self-2 c =
    rw c.in_ok-push.ensures.items
    (begun c.self.inside.jobs.items c.args.self.now c.args.name c.in_ok-job.job _ _ c.self.view_is c.requires c.self.invariant.0 c.self.invariant.1 c.in_ok-job.ensures.state
    c.in_ok-job.ensures.orders c.in_ok-job.ensures.moves)
