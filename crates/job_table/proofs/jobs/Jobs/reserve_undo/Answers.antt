use Rattle.std.proofs.Common.{◌-◌, refl}
use Rattle.std.proofs.lemmas.List.Elements.{All-set}
use Rattle.job_table.specs.Table.{IsWhole}
use Rattle.job_table.proofs.TableLemmas.{counted_kept, unchanged_jobs, orders_kept, moves_kept, room_after}
use Rattle.job_table.proofs.jobs.Jobs.reserve_undo.Goals as goal

pub invariant_of-self : goal.invariant_of-self
invariant_of-self c = (
  counted_kept c.self.inside.jobs.items c.args.self.now c.args.number c.index_mut-job.result.now c.reserve_undo.new.self c.self.view_is c.requires c.index_mut-job.ensures.value
      (λ j. j) _ _ c.reserve_undo.ensures.state refl c.self.invariant.0,
  All-set IsWhole c.self.inside.jobs.items (c.args.number - 1) c.reserve_undo.new.self c.reserve_undo.ensures.whole c.self.invariant.1,
)

pub returns-clause-jobs : goal.returns-clause-jobs
returns-clause-jobs c =
    unchanged_jobs c.self.inside.jobs.items c.args.self.now c.args.number c.index_mut-job.result.now c.reserve_undo.new.self c.self.view_is c.requires c.index_mut-job.ensures.value
    c.reserve_undo.ensures.state

pub returns-clause-orders : goal.returns-clause-orders
returns-clause-orders c =
    orders_kept c.self.inside.jobs.items c.args.self.now c.args.number c.index_mut-job.result.now c.reserve_undo.new.self c.self.view_is c.requires c.index_mut-job.ensures.value
    c.reserve_undo.ensures.orders

pub returns-clause-moves : goal.returns-clause-moves
returns-clause-moves c =
    moves_kept c.self.inside.jobs.items c.args.self.now c.args.number c.index_mut-job.result.now c.reserve_undo.new.self c.self.view_is c.requires c.index_mut-job.ensures.value
    c.reserve_undo.ensures.moves

pub returns-clause-room : goal.returns-clause-room
returns-clause-room c =
    room_after c.self.inside.jobs.items c.args.self.now c.args.number c.index_mut-job.result.now c.reserve_undo.new.self c.self.view_is c.requires c.index_mut-job.ensures.value
    c.reserve_undo.ensures.state c.reserve_undo.result c.reserve_undo.ensures.room
