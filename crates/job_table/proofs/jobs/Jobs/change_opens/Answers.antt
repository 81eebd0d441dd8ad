use Rattle.std.proofs.Common.{◌-◌, All, refl, ap, subst}
use Rattle.std.proofs.lemmas.List.Elements.{All-set}
use Rattle.job_table.specs.OpenChanges.{CanMake, job_after}
use Rattle.job_table.specs.Table.{IsWhole}
use Rattle.job_table.proofs.TableLemmas.{changed_table, counted_kept, ordered_here, orders_is, place_there, whole_here}
use Rattle.job_table.proofs.jobs.Jobs.change_opens.Goals as goal

pub change_opens-requires : goal.change_opens-requires
change_opens-requires c =
    subst (λ orders. All (λ entry. CanMake c.args.change.now entry.1) orders)
    (orders_is c.self.inside.jobs.items c.args.self.now c.args.number c.index_mut-job.result.now c.index_mut-job.result.now c.self.view_is c.requires.running c.index_mut-job.ensures.value)
    c.requires.possible

pub invariant_of-self : goal.invariant_of-self
invariant_of-self c = (
  counted_kept c.self.inside.jobs.items c.args.self.now c.args.number c.index_mut-job.result.now c.change_opens.new.self c.self.view_is c.requires.running c.index_mut-job.ensures.value
      (job_after c.args.change.now c.index_mut-job.result.now.orders) _ _ (ap (λ j. j.state) c.change_opens.ensures.changed) refl c.self.invariant.0,
  All-set IsWhole c.self.inside.jobs.items (c.args.number - 1) c.change_opens.new.self c.change_opens.ensures.whole c.self.invariant.1,
)

pub returns-clause-changed : goal.returns-clause-changed
returns-clause-changed c =
    changed_table c.self.inside.jobs.items c.args.self.now c.args.number c.index_mut-job.result.now c.change_opens.new.self c.self.view_is c.requires.running c.index_mut-job.ensures.value
    c.args.change.now c.change_opens.ensures.changed

pub returns-clause-ordered : goal.returns-clause-ordered
returns-clause-ordered c =
    ordered_here c.self.inside.jobs.items c.args.self.now c.args.number c.index_mut-job.result.now c.change_opens.new.self c.self.view_is c.requires.running c.index_mut-job.ensures.value
    c.args.change.now
    (whole_here c.self.inside.jobs.items (c.args.number - 1) c.index_mut-job.result.now c.self.invariant.1
    (place_there c.self.inside.jobs.items c.args.self.now c.args.number c.index_mut-job.result.now c.change_opens.new.self c.self.view_is c.requires.running c.index_mut-job.ensures.value)
    c.index_mut-job.ensures.value)
