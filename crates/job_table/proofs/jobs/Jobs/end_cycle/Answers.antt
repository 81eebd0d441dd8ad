use Rattle.std.proofs.Common.{[], ◌-◌, length, refl, ap, ◌∙◌, sym}
use Rattle.std.proofs.lemmas.List.Elements.{All-set}
use Rattle.lawful_states.specs.Uses.{changes_in}
use Rattle.lawful_states.specs.Commitment.{without_cycle}
use Rattle.job_table.specs.Changes.{bytes_of}
use Rattle.job_table.specs.Table.{IsWhole}
use Rattle.job_table.proofs.TableLemmas.{jobs_after, job_is, orders_kept, moves_after, moves_is, counted_end, count_within, bytes_within}
use Rattle.job_table.proofs.jobs.Jobs.end_cycle.Goals as goal

pub overflow_sub-self : goal.overflow_sub-self
overflow_sub-self c =
    rw (c.len.ensures, c.end_cycle-undos.ensures.changes)
    (count_within c.self.inside.jobs.items c.args.self.now c.args.number c.index_mut-job.result.now c.self.view_is c.requires c.index_mut-job.ensures.value _ _ c.self.invariant.0)

pub overflow_sub-self-2 : goal.overflow_sub-self-2
overflow_sub-self-2 c =
    rw (c.bytes.ensures, c.end_cycle-undos.ensures.changes)
    (bytes_within c.self.inside.jobs.items c.args.self.now c.args.number c.index_mut-job.result.now c.self.view_is c.requires c.index_mut-job.ensures.value _ _ c.self.invariant.0)

pub invariant_of-self : goal.invariant_of-self
invariant_of-self c = (
  counted_end c.self.inside.jobs.items c.args.self.now c.args.number c.index_mut-job.result.now c.end_cycle-undos.new.self c.self.view_is c.requires c.index_mut-job.ensures.value
      without_cycle _ _ c.end_cycle-undos.ensures.state _ _ (c.len.ensures ∙ ap (λ l. length l) c.end_cycle-undos.ensures.changes)
      (c.bytes.ensures ∙ ap bytes_of c.end_cycle-undos.ensures.changes) refl c.self.invariant.0,
  All-set IsWhole c.self.inside.jobs.items (c.args.number - 1) c.end_cycle-undos.new.self c.end_cycle-undos.ensures.whole c.self.invariant.1,
)

pub returns-clause-jobs : goal.returns-clause-jobs
returns-clause-jobs c =
    jobs_after c.self.inside.jobs.items c.args.self.now c.args.number c.index_mut-job.result.now c.end_cycle-undos.new.self c.self.view_is c.requires c.index_mut-job.ensures.value
    without_cycle c.end_cycle-undos.ensures.state

pub returns-clause-orders : goal.returns-clause-orders
returns-clause-orders c =
    orders_kept c.self.inside.jobs.items c.args.self.now c.args.number c.index_mut-job.result.now c.end_cycle-undos.new.self c.self.view_is c.requires c.index_mut-job.ensures.value
    c.end_cycle-undos.ensures.orders

pub returns-clause-moves : goal.returns-clause-moves
returns-clause-moves c =
    moves_after c.self.inside.jobs.items c.args.self.now c.args.number c.index_mut-job.result.now c.end_cycle-undos.new.self c.self.view_is c.requires c.index_mut-job.ensures.value
    (λ moves. []) c.end_cycle-undos.ensures.moves

pub returns-clause-changes : goal.returns-clause-changes
returns-clause-changes c =
    c.end_cycle-undos.ensures.changes
    ∙ ap (λ j. changes_in j.cycle)
    (sym (job_is c.self.inside.jobs.items c.args.self.now c.args.number c.index_mut-job.result.now c.end_cycle-undos.new.self c.self.view_is c.requires c.index_mut-job.ensures.value))

pub returns-clause-given : goal.returns-clause-given
returns-clause-given c =
    c.end_cycle-undos.ensures.given
    ∙ sym (moves_is c.self.inside.jobs.items c.args.self.now c.args.number c.index_mut-job.result.now c.end_cycle-undos.new.self c.self.view_is c.requires c.index_mut-job.ensures.value)
