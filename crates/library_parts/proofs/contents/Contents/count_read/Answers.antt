use Rattle.std.proofs.Common.{◌≡◌, ◌≤◌, not, length, arith}
use Rattle.lock_table.specs.declared.table.TheConstants.{MOST_LOCKS}
use Rattle.lock_table.specs.Lock.{is_of_open}
use Rattle.lock_table.specs.Table.{freed}
use Rattle.lawful_states.proofs.LockLemmas.{length-filter, few-alike}
use Rattle.library_parts.proofs.contents.Contents.count_read.Goals as goal

pub returns-in-None : goal.returns-in-None
returns-in-None c =
    let held = c.self.inside.locks.held in
    let left = freed (is_of_open c.args.holder) held in
    let fewer : length left ≤ length held = length-filter (λ lock. not (is_of_open c.args.holder lock)) held in
    let count : c.count.result ≡ length held = c.count.ensures.count in
    let fits : length held ≤ c.self.inside.locks.room = c.count.ensures.table.fits in
    let within : c.self.inside.locks.room ≤ MOST_LOCKS = c.count.ensures.table.within in
    rw (← c.self.view_is, c.in-None.is) (few-alike c.count.result (length left) MOST_LOCKS (omega (arith, fewer, count)) (omega (arith, fits, within, count)))
