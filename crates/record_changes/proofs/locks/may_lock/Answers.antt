use Rattle.std.proofs.Common.{arith}
use Rattle.lock_table.specs.declared.table.TheConstants.{MOST_LOCKS}
use Rattle.library_steps.specs.State.{job_of, memory_of}
use Rattle.library_steps.specs.Locking.{holder_of, is_committed, level_of, record_of}
use Rattle.record_changes.proofs.ChangeLemmas.{few-of}
use Rattle.record_changes.proofs.LockLemmas.{changed-fewer}
use Rattle.record_changes.proofs.locks.may_lock.Goals as goal

pub returns : goal.returns
returns c =
    let state = c.args.contents.now.state in
    let opened = c.args.opened.now.state in
    let its = job_of c.args.job (memory_of state) in
    let fewer = changed-fewer (holder_of c.args.job opened) (record_of opened c.args.rrn) (is_committed its) state.locks c.args.call (level_of its opened) c.requires.call in
    let few = few-of MOST_LOCKS _ _ c.in_ok-are_few.ensures in
    record { unlocked = c.in_ok-is_free.ensures; few = omega (arith, fewer, few) }
