use Rattle.std.proofs.Common.{ap, ◌∙◌}
use Rattle.lock_table.specs.Table.{Locks, blocker}
use Rattle.lock_table.proofs.ByRecord.{blocker-is}
use Rattle.lock_table.proofs.table.LockTable.clash.Goals as goal

pub returns : goal.returns
returns c =
    c.blocker.ensures
    ∙ blocker-is c.args.job c.args.at c.args.kind _ _ c.self.invariant.same
    ∙ ap (λ (t : Locks). blocker c.args.job c.args.at c.args.kind t.held) c.self.view_is
