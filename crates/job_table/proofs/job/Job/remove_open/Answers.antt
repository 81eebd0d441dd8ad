use Rattle.std.proofs.Common.{not, filter, ap, ◌∙◌}
use Rattle.library_model.specs.Named.{same_name}
use Rattle.lawful_states.specs.Opens.{without_open}
use Rattle.job_table.specs.Opens.{AreKept}
use Rattle.job_table.specs.Table.{RoomyJob}
use Rattle.job_table.proofs.OpenLemmas.{AreKept-filter, kept_job, job-removed, same-opens}
use Rattle.job_table.proofs.job.Job.remove_open.Goals as goal

pub invariant_of-self : goal.invariant_of-self
invariant_of-self c = (
  rw c.remove.ensures (AreKept-filter c.args.name.now c.self.inside.opens c.self.inside.opened c.self.invariant.0),
  c.self.invariant.1,
)

pub returns-clause-removed : goal.returns-clause-removed
returns-clause-removed c =
    ap (λ opens. kept_job c.self.inside.name c.self.inside.ended c.self.inside.level c.self.inside.cycle opens c.self.inside.opened) c.remove.ensures
    ∙ job-removed c.self.inside.name c.self.inside.ended c.self.inside.level c.self.inside.cycle c.self.inside.opens c.self.inside.opened c.args.name.now
    ∙ ap (λ (j : RoomyJob). record j { state = without_open c.args.name.now j.state; orders = filter (λ entry. not (same_name c.args.name.now entry.0)) j.orders }) c.self.view_is

pub returns-clause-whole : goal.returns-clause-whole
returns-clause-whole c =
    let kept : AreKept c.remove.new.self c.self.inside.opened = rw c.remove.ensures (AreKept-filter c.args.name.now c.self.inside.opens c.self.inside.opened c.self.invariant.0) in
    record { ordered = same-opens c.remove.new.self kept.alike; counted = c.self.invariant.1 }
