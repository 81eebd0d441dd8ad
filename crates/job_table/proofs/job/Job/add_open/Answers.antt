use Rattle.std.proofs.Common.{[], ◌∷◌, ◌+◌, ◌++◌, ap, ◌∙◌}
use Rattle.lawful_states.specs.Opens.{with_open}
use Rattle.job_table.specs.Opens.{AreKept, order_by}
use Rattle.job_table.specs.Table.{RoomyJob}
use Rattle.job_table.proofs.OpenLemmas.{AreKept-push, kept_job, job-added, same-opens}
use Rattle.job_table.proofs.job.Job.add_open.Goals as goal

pub invariant_of-self : goal.invariant_of-self
invariant_of-self c = (
  rw c.add.ensures
      (AreKept-push c.self.inside.opens c.self.inside.opened (c.args.args.now.open_id, c.new.result) c.self.invariant.0
      (ap (λ s. s.number) c.new.ensures.state) (ap (λ o. o.number) c.new.ensures.order)),
  c.self.invariant.1,
)

pub returns-clause-added : goal.returns-clause-added
returns-clause-added c =
    ap (λ opens. kept_job c.self.inside.name c.self.inside.ended c.self.inside.level c.self.inside.cycle opens (c.self.inside.opened + 1)) c.add.ensures
    ∙ job-added c.self.inside.name c.self.inside.ended c.self.inside.level c.self.inside.cycle c.self.inside.opens c.self.inside.opened c.args.args.now c.args.members
    (order_by (c.self.inside.opened + 1) c.args.reads) c.new.result c.new.ensures.state c.new.ensures.order
    ∙ ap (λ (j : RoomyJob). record j {
      state = with_open c.args.args.now c.args.members j.state;
      orders = j.orders ++ (c.args.args.now.open_id, order_by (j.state.opened + 1) c.args.reads) ∷ [];
    }) c.self.view_is

pub returns-clause-whole : goal.returns-clause-whole
returns-clause-whole c =
    let kept : AreKept c.add.new.self (c.self.inside.opened + 1) =
    rw c.add.ensures
    (AreKept-push c.self.inside.opens c.self.inside.opened (c.args.args.now.open_id, c.new.result) c.self.invariant.0
    (ap (λ s. s.number) c.new.ensures.state) (ap (λ o. o.number) c.new.ensures.order)) in
    record { ordered = same-opens c.add.new.self kept.alike; counted = c.self.invariant.1 }
