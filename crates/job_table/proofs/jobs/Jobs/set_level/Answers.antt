use Rattle.std.proofs.Common.{◌-◌, refl, ap}
use Rattle.std.proofs.lemmas.List.Elements.{All-set}
use Rattle.lawful_states.specs.Commitment.{with_level}
use Rattle.job_table.specs.Table.{IsWhole}
use Rattle.job_table.proofs.TableLemmas.{table_after, counted_kept}
use Rattle.job_table.proofs.jobs.Jobs.set_level.Goals as goal

pub invariant_of-self : goal.invariant_of-self
invariant_of-self c = (
  counted_kept c.self.inside.jobs.items c.args.self.now c.args.number c.index_mut-job.result.now c.set_level.new.self c.self.view_is c.requires c.index_mut-job.ensures.value
      (with_level c.args.level) _ _ (ap (λ j. j.state) c.set_level.ensures.set) refl c.self.invariant.0,
  All-set IsWhole c.self.inside.jobs.items (c.args.number - 1) c.set_level.new.self c.set_level.ensures.whole c.self.invariant.1,
)

pub returns : goal.returns
returns c =
    table_after c.self.inside.jobs.items c.args.self.now c.args.number c.index_mut-job.result.now c.set_level.new.self c.self.view_is c.requires c.index_mut-job.ensures.value
    (with_level c.args.level) c.set_level.ensures.set
