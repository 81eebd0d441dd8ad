use Rattle.std.proofs.Common.{[], ◌-◌, refl, ap}
use Rattle.std.proofs.lemmas.List.Elements.{All-set}
use Rattle.job_table.specs.Table.{IsWhole, closed_job}
use Rattle.job_table.proofs.TableLemmas.{table_ordered, counted_kept}
use Rattle.job_table.proofs.jobs.Jobs.close.Goals as goal

pub invariant_of-self : goal.invariant_of-self
invariant_of-self c = (
  counted_kept c.self.inside.jobs.items c.args.self.now c.args.number c.index_mut-job.result.now c.close.new.self c.self.view_is c.requires c.index_mut-job.ensures.value
      closed_job _ _ (ap (λ j. j.state) c.close.ensures.closed) refl c.self.invariant.0,
  All-set IsWhole c.self.inside.jobs.items (c.args.number - 1) c.close.new.self c.close.ensures.whole c.self.invariant.1,
)

pub returns : goal.returns
returns c =
    table_ordered c.self.inside.jobs.items c.args.self.now c.args.number c.index_mut-job.result.now c.close.new.self c.self.view_is c.requires c.index_mut-job.ensures.value
    closed_job (λ orders. []) c.close.ensures.closed
