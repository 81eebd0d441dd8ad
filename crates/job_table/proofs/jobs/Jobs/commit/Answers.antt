use Rattle.std.proofs.Common.{◌-◌, refl, ap, ◌∙◌}
use Rattle.lawful_states.specs.State.{job_changed, with_opens}
use Rattle.lawful_states.specs.Commitment.{without_cycle, committed_open}
use Rattle.job_table.specs.Table.{orders_at}
use Rattle.job_table.specs.declared.opens.OpenChange.TheVariants.{Committed}
use Rattle.job_table.proofs.OpenLemmas.{none-asked, opens_after-same}
use Rattle.job_table.proofs.TableLemmas.{running-after, job_after-each, job_changed-twice}
use Rattle.job_table.proofs.jobs.Jobs.commit.Goals as goal

pub change_opens-requires-clause-running : goal.change_opens-requires-clause-running
change_opens-requires-clause-running c = running-after _ c.args.number (c.args.number - 1) without_cycle (λ j. refl) c.end_cycle-changes.ensures.jobs c.requires

pub change_opens-requires-clause-possible : goal.change_opens-requires-clause-possible
change_opens-requires-clause-possible c = none-asked _

pub returns-clause-jobs : goal.returns-clause-jobs
returns-clause-jobs c =
    let running = running-after _ c.args.number (c.args.number - 1) without_cycle (λ j. refl) c.end_cycle-changes.ensures.jobs c.requires in
    ap (λ t. t.jobs) c.change_opens.ensures.changed
    ∙ job_after-each Committed committed_open c.args.number (orders_at c.args.number c.end_cycle-changes.new.self) c.end_cycle-changes.new.self.jobs running
    (opens_after-same Committed committed_open _ _ c.change_opens.ensures.ordered (λ formats opened. refl))
    ∙ ap (job_changed (c.args.number - 1) (with_opens committed_open)) c.end_cycle-changes.ensures.jobs
    ∙ job_changed-twice (c.args.number - 1) without_cycle (with_opens committed_open) c.args.self.now.jobs

pub returns-clause-orders : goal.returns-clause-orders
returns-clause-orders c = ap (λ t. t.orders) c.change_opens.ensures.changed ∙ c.end_cycle-changes.ensures.orders

pub returns-clause-moves : goal.returns-clause-moves
returns-clause-moves c = ap (λ t. t.moves) c.change_opens.ensures.changed ∙ c.end_cycle-changes.ensures.moves
