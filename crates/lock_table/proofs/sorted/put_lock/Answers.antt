-- A lock that is there changes nothing.
use Rattle.std.proofs.Common.{arith, sym}
use Rattle.lock_table.specs.Lock.{lock_cmp}
use Rattle.lock_table.proofs.Sides.{with_item-same}
use Rattle.lock_table.proofs.sorted.put_lock.Goals as goal

pub returns-then-is_there-clause-locks : goal.returns-then-is_there-clause-locks
returns-then-is_there-clause-locks c = sym (with_item-same lock_cmp c.args.lock c.args.locks.now (let same = rw c.if-is_there.true at c.is_there.ensures.with_it in omega (arith, same)))
