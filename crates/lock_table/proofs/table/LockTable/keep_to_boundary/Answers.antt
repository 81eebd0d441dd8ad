use Rattle.lock_table.proofs.Releases.{IsKept-step, IsKept-end, kept_falls}
use Rattle.lock_table.proofs.table.LockTable.keep_to_boundary.Goals as goal

pub loop-lock-smaller : goal.loop-lock-smaller
loop-lock-smaller c = kept_falls c.args.holder c.args.at c.loop-lock.self c.args.self.now c.keep.new.self c.in-Some.lock c.in-Some.ensures.table c.in-Some.ensures.some c.keep.ensures

pub loop-lock-preserved : goal.loop-lock-preserved
loop-lock-preserved c = IsKept-step c.args.holder c.args.at c.loop-lock.self c.args.self.now c.keep.new.self c.in-Some.lock c.in-Some.ensures.table c.in-Some.ensures.some c.keep.ensures c.loop-lock.invariant

pub returns : goal.returns
returns c = IsKept-end c.args.holder c.args.at c.loop-lock.self c.args.self.now c.in_default.ensures.table c.loop-lock.invariant c.in_default.ensures.none
