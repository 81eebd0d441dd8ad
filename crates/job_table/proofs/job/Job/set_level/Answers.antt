use Rattle.job_table.proofs.OpenLemmas.{same-opens}
use Rattle.job_table.proofs.job.Job.set_level.Goals as goal

pub returns-clause-whole : goal.returns-clause-whole
returns-clause-whole c = record { ordered = same-opens c.self.inside.opens c.self.invariant.0.alike; counted = c.self.invariant.1 }
