use Rattle.std.proofs.Common.{◌-◌, refl, ap, ◌∙◌}
use Rattle.lawful_states.specs.State.{job_changed, with_opens}
use Rattle.lawful_states.specs.Commitment.{without_cycle, rolled_back_open}
use Rattle.job_table.specs.Table.{orders_at}
use Rattle.job_table.specs.declared.opens.OpenChange.TheVariants.{RolledBack}
use Rattle.job_table.proofs.OpenLemmas.{none-asked, opens_after-same}
use Rattle.job_table.proofs.TableLemmas.{running-after, job_after-each, job_changed-twice}
use Rattle.job_table.proofs.jobs.Jobs.rollback.Goals as goal

pub change_opens-requires-clause-running : goal.change_opens-requires-clause-running
change_opens-requires-clause-running c = running-after _ c.args.number (c.args.number - 1) without_cycle (λ j. refl) c.end_cycle-undos.ensures.jobs c.requires

pub change_opens-requires-clause-possible : goal.change_opens-requires-clause-possible
change_opens-requires-clause-possible c = none-asked _

pub returns-clause-jobs : goal.returns-clause-jobs
returns-clause-jobs c =
    let running = running-after _ c.args.number (c.args.number - 1) without_cycle (λ j. refl) c.end_cycle-undos.ensures.jobs c.requires in
    ap (λ t. t.jobs) c.change_opens.ensures.changed
    ∙ job_after-each RolledBack rolled_back_open c.args.number (orders_at c.args.number c.end_cycle-undos.new.self) c.end_cycle-undos.new.self.jobs running
    (opens_after-same RolledBack rolled_back_open _ _ c.change_opens.ensures.ordered (λ formats opened. refl))
    ∙ ap (job_changed (c.args.number - 1) (with_opens rolled_back_open)) c.end_cycle-undos.ensures.jobs
    ∙ job_changed-twice (c.args.number - 1) without_cycle (with_opens rolled_back_open) c.args.self.now.jobs

pub returns-clause-orders : goal.returns-clause-orders
returns-clause-orders c = ap (λ t. t.orders) c.change_opens.ensures.changed ∙ c.end_cycle-undos.ensures.orders

pub returns-clause-moves : goal.returns-clause-moves
returns-clause-moves c = ap (λ t. t.moves) c.change_opens.ensures.changed ∙ c.end_cycle-undos.ensures.moves
