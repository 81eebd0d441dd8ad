use Rattle.std.proofs.Common.{All, ap, sym, subst, ◌∙◌}
use Rattle.job_table.specs.Opens.{AreKept}
use Rattle.job_table.specs.OpenChanges.{CanMake, job_after}
use Rattle.job_table.specs.Table.{RoomyJob}
use Rattle.job_table.proofs.OpenLemmas.{AreKept-map, asked-of_opens, kept_job, job-changed, same-opens}
use Rattle.job_table.proofs.job.Job.change_opens.Goals as goal

pub change_each-requires : goal.change_each-requires
change_each-requires c =
    asked-of_opens (CanMake c.args.change.now) c.self.inside.opens (subst (λ (j : RoomyJob). All (λ entry. CanMake c.args.change.now entry.1) j.orders) (sym c.self.view_is) c.requires)

pub invariant_of-self : goal.invariant_of-self
invariant_of-self c = (
  rw c.change_each.ensures (AreKept-map c.args.change.now c.self.inside.opens c.self.inside.opened c.self.invariant.0),
  c.self.invariant.1,
)

pub returns-clause-changed : goal.returns-clause-changed
returns-clause-changed c =
    ap (λ opens. kept_job c.self.inside.name c.self.inside.ended c.self.inside.level c.self.inside.cycle opens c.self.inside.opened) c.change_each.ensures
    ∙ job-changed c.self.inside.name c.self.inside.ended c.self.inside.level c.self.inside.cycle c.self.inside.opens c.self.inside.opened c.args.change.now
    ∙ ap (λ (j : RoomyJob). record j { state = job_after c.args.change.now j.orders j.state }) c.self.view_is

pub returns-clause-whole : goal.returns-clause-whole
returns-clause-whole c =
    let kept : AreKept c.change_each.new.self c.self.inside.opened = rw c.change_each.ensures (AreKept-map c.args.change.now c.self.inside.opens c.self.inside.opened c.self.invariant.0) in
    record { ordered = same-opens c.change_each.new.self kept.alike; counted = c.self.invariant.1 }
