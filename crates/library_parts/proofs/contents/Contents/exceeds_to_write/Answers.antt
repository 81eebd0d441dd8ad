use Rattle.std.proofs.Common.{◌≡◌, ◌≤◌, ℕ, Bool, None, length, arith}
use Rattle.lock_table.specs.declared.table.TheConstants.{MOST_LOCKS}
use Rattle.lock_table.specs.Levels.{locks_after}
use Rattle.lawful_states.proofs.LockLemmas.{write-none, few-alike}
use Rattle.library_parts.proofs.contents.Contents.exceeds_to_write.Goals as goal

pub returns-in-None : goal.returns-in-None
returns-in-None c = λ (is_committed : ℕ → Bool).
    let held = c.self.inside.locks.held in
    let left = locks_after c.args.call None c.args.holder c.args.at is_committed held in
    let fewer : length left ≤ length held = write-none c.args.holder c.args.at is_committed held c.args.call c.requires in
    let count : c.count.result ≡ length held = c.count.ensures.count in
    let fits : length held ≤ c.self.inside.locks.room = c.count.ensures.table.fits in
    let within : c.self.inside.locks.room ≤ MOST_LOCKS = c.count.ensures.table.within in
    rw (← c.self.view_is, c.in-None.is) (few-alike c.count.result (length left) MOST_LOCKS (omega (arith, fewer, count)) (omega (arith, fits, within, count)))
