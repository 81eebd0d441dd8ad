use Rattle.record_changes.proofs.locks.leave_locks.Goals as goal

pub lock_for-requires-clause-room : goal.lock_for-requires-clause-room
lock_for-requires-clause-room c =
    rw (c.level_of-level.ensures, c.holder.ensures, c.record_at.ensures)
    (c.locks_fit.ensures c.args.call _ _ _ _ c.args.contents.now.state c.args.contents.now.room c.requires.call c.requires.room c.requires.may.few)
