-- All locks of the job are its boundary locks and the open locks of its opens.
use Rattle.std.proofs.Common.{List, ap, ◌∙◌}
use Rattle.lock_table.specs.declared.lock.Lock.{Lock}
use Rattle.lock_table.specs.Table.{holding}
use Rattle.lock_table.proofs.Rules.{end_job-all, freed-job, rollback-all}
use Rattle.lock_table.proofs.table.LockTable.release_job.Goals as goal

pub returns-clause-rollback : goal.returns-clause-rollback
returns-clause-rollback c = λ level opened at is_committed.
    c.free_part.ensures
    ∙ ap (λ (xs : List Lock). holding xs c.args.self.now)
    (freed-job c.args.job c.args.self.now.held ∙ rollback-all (record { job = c.args.job; opened = opened }) at is_committed c.args.self.now.held level)

pub returns-clause-end_job : goal.returns-clause-end_job
returns-clause-end_job c = λ level opened at is_committed.
    c.free_part.ensures
    ∙ ap (λ (xs : List Lock). holding xs c.args.self.now)
    (freed-job c.args.job c.args.self.now.held ∙ end_job-all (record { job = c.args.job; opened = opened }) at is_committed c.args.self.now.held level)
