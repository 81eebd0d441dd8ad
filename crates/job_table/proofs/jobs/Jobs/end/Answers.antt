use Rattle.std.proofs.Common.{[], ◌-◌, refl, ap, ◌∙◌}
use Rattle.lawful_states.specs.State.{job_changed}
use Rattle.lawful_states.specs.Commitment.{without_cycle}
use Rattle.job_table.specs.Table.{closed_job, changed_at}
use Rattle.job_table.proofs.TableLemmas.{running-after, job_changed-twice}
use Rattle.job_table.proofs.jobs.Jobs.end.Goals as goal

pub close-requires : goal.close-requires
close-requires c = running-after _ c.args.number (c.args.number - 1) without_cycle (λ j. refl) c.end_cycle-undos.ensures.jobs c.requires

pub returns-clause-jobs : goal.returns-clause-jobs
returns-clause-jobs c =
    ap (λ t. t.jobs) c.close.ensures
    ∙ ap (job_changed (c.args.number - 1) closed_job) c.end_cycle-undos.ensures.jobs
    ∙ job_changed-twice (c.args.number - 1) without_cycle closed_job c.args.self.now.jobs

pub returns-clause-orders : goal.returns-clause-orders
returns-clause-orders c = ap (λ t. t.orders) c.close.ensures ∙ ap (changed_at (c.args.number - 1) (λ orders. [])) c.end_cycle-undos.ensures.orders

pub returns-clause-moves : goal.returns-clause-moves
returns-clause-moves c = ap (λ t. t.moves) c.close.ensures ∙ c.end_cycle-undos.ensures.moves
