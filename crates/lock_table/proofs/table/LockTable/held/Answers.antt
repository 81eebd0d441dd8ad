use Rattle.std.proofs.Common.{true, refl, ap, ◌∙◌}
use Rattle.std.specs.List.{list_any}
use Rattle.lock_table.specs.declared.lock.Reach.TheVariants.{Boundary}
use Rattle.lock_table.specs.declared.part.Part.TheVariants.{OnRecord}
use Rattle.lock_table.specs.Lock.{is_of_group_on, is_of_open_on}
use Rattle.lock_table.specs.Table.{Locks}
use Rattle.lock_table.specs.Index.{is_part}
use Rattle.lock_table.proofs.Found.{is_some-found, keeps-on, run-is_some}
use Rattle.lock_table.proofs.table.LockTable.held.Goals as goal

pub returns-clause-by_open : goal.returns-clause-by_open
returns-clause-by_open c = c.is_some.ensures ∙ is_some-found (is_of_open_on c.args.holder c.args.at) c.args.self.now.held c.open_lock_on.result c.open_lock_on.ensures.some c.open_lock_on.ensures.none

pub returns-clause-to_boundary : goal.returns-clause-to_boundary
returns-clause-to_boundary c =
    c.is_some-2.ensures
    ∙ run-is_some (is_part (OnRecord c.args.holder.job Boundary c.args.at)) (λ _. true) (is_of_group_on c.args.holder.job c.args.at) (keeps-on c.args.holder.job c.args.at) c.self.inside.locks _ c.first_in.result refl c.first_in.ensures
    ∙ ap (λ (t : Locks). list_any (is_of_group_on c.args.holder.job c.args.at) t.held) c.self.view_is
