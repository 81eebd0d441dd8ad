use Rattle.std.proofs.Common.{◌<◌, length, subst, sym}
use Rattle.lock_table.specs.Index.{is_part}
use Rattle.lock_table.specs.Table.{Locks}
use Rattle.lock_table.proofs.Releases.{IsLeft-step, IsLeft-end, length-without_lock}
use Rattle.lock_table.proofs.table.LockTable.free_part.Goals as goal

pub loop-lock-smaller : goal.loop-lock-smaller
loop-lock-smaller c = subst (λ (t : Locks). length t.held < length c.loop-lock.self.held) (sym c.free.ensures) (length-without_lock c.in-Some.lock c.loop-lock.self.held c.in-Some.ensures.some.there)

pub loop-lock-preserved : goal.loop-lock-preserved
loop-lock-preserved c = IsLeft-step (is_part c.args.part) c.loop-lock.self c.args.self.now c.free.new.self c.in-Some.lock c.loop-lock.invariant c.in-Some.ensures.some c.free.ensures

pub returns : goal.returns
returns c = IsLeft-end (is_part c.args.part) c.loop-lock.self c.args.self.now c.loop-lock.invariant c.in_default.ensures.none
