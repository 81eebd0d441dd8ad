use Rattle.std.proofs.Common.{◌-◌, not, filter, refl, ap}
use Rattle.std.proofs.lemmas.List.Elements.{All-set}
use Rattle.library_model.specs.Named.{same_name}
use Rattle.lawful_states.specs.Opens.{without_open}
use Rattle.job_table.specs.Table.{IsWhole}
use Rattle.job_table.proofs.TableLemmas.{table_ordered, counted_kept}
use Rattle.job_table.proofs.jobs.Jobs.remove_open.Goals as goal

pub invariant_of-self : goal.invariant_of-self
invariant_of-self c = (
  counted_kept c.self.inside.jobs.items c.args.self.now c.args.number c.index_mut-job.result.now c.remove_open.new.self c.self.view_is c.requires c.index_mut-job.ensures.value
      (without_open c.args.name.now) _ _ (ap (λ j. j.state) c.remove_open.ensures.removed) refl c.self.invariant.0,
  All-set IsWhole c.self.inside.jobs.items (c.args.number - 1) c.remove_open.new.self c.remove_open.ensures.whole c.self.invariant.1,
)

pub returns : goal.returns
returns c =
    table_ordered c.self.inside.jobs.items c.args.self.now c.args.number c.index_mut-job.result.now c.remove_open.new.self c.self.view_is c.requires c.index_mut-job.ensures.value
    (without_open c.args.name.now) (λ orders. filter (λ entry. not (same_name c.args.name.now entry.0)) orders) c.remove_open.ensures.removed
