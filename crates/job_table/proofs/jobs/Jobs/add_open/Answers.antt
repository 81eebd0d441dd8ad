use Rattle.std.proofs.Common.{◌-◌, refl, ap}
use Rattle.std.proofs.lemmas.List.Elements.{All-set}
use Rattle.lawful_states.specs.Opens.{with_open}
use Rattle.job_table.specs.Opens.{order_by}
use Rattle.job_table.specs.Table.{IsWhole}
use Rattle.job_table.proofs.TableLemmas.{job_is, opened_table, counted_kept}
use Rattle.job_table.proofs.jobs.Jobs.add_open.Goals as goal

pub add_open-requires-clause-few : goal.add_open-requires-clause-few
add_open-requires-clause-few c =
    rw (← job_is c.self.inside.jobs.items c.args.self.now c.args.number c.index_mut-job.result.now c.index_mut-job.result.now c.self.view_is c.requires.running c.index_mut-job.ensures.value)
    c.requires.few

pub add_open-requires-clause-numbered : goal.add_open-requires-clause-numbered
add_open-requires-clause-numbered c =
    rw (← job_is c.self.inside.jobs.items c.args.self.now c.args.number c.index_mut-job.result.now c.index_mut-job.result.now c.self.view_is c.requires.running c.index_mut-job.ensures.value)
    c.requires.numbered

pub invariant_of-self : goal.invariant_of-self
invariant_of-self c = (
  counted_kept c.self.inside.jobs.items c.args.self.now c.args.number c.index_mut-job.result.now c.add_open.new.self c.self.view_is c.requires.running c.index_mut-job.ensures.value
      (with_open c.args.args.now c.args.members) _ _ (ap (λ j. j.state) c.add_open.ensures.added) refl c.self.invariant.0,
  All-set IsWhole c.self.inside.jobs.items (c.args.number - 1) c.add_open.new.self c.add_open.ensures.whole c.self.invariant.1,
)

pub returns : goal.returns
returns c =
    opened_table c.self.inside.jobs.items c.args.self.now c.args.number c.index_mut-job.result.now c.add_open.new.self c.self.view_is c.requires.running c.index_mut-job.ensures.value
    (with_open c.args.args.now c.args.members) (λ number. (c.args.args.now.open_id, order_by number c.args.reads)) c.add_open.ensures.added
