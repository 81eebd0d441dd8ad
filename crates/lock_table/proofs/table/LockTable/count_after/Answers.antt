-- The older locks of the open are found among those of its job, and no lock is counted twice.
use Rattle.std.proofs.Common.{◌≡◌, ◌+◌, ◌-◌, ◌≤◌, true, false, length, arith, ap, subst}
use Rattle.lock_table.specs.declared.lock.Lock.{Lock}
use Rattle.lock_table.specs.Lock.{is_open}
use Rattle.lock_table.specs.Table.{with_lock}
use Rattle.lock_table.proofs.Counts.{older-≤, count-after}
use Rattle.lock_table.proofs.table.LockTable.count_after.Goals as goal

pub overflow_sub-left : goal.overflow_sub-left
overflow_sub-left c =
    let le : c.open_count.result ≤ length c.args.self.now.held = older-≤ c.args.holder c.args.at c.args.kind c.args.self.now.held c.open_count.result c.open_count.ensures in
    omega (arith, c.held_count.ensures.count)

pub overflow_add-result : goal.overflow_add-result
overflow_add-result c = omega (arith, c.held_count.ensures.count, c.held_count.ensures.table.fits, c.held_count.ensures.table.within, c.growth.ensures.least)

pub overflow_cast-result : goal.overflow_cast-result
overflow_cast-result c = omega (arith, c.held_count.ensures.count, c.held_count.ensures.table.fits, c.held_count.ensures.table.within, c.growth.ensures.least)

pub returns : goal.returns
returns c =
    let left : c.held_count.result - c.open_count.result ≡ length c.args.self.now.held - c.open_count.result = ap (λ n. n - c.open_count.result) c.held_count.ensures.count in
    count-after c.args.holder c.args.at c.args.kind c.args.self.now.held c.open_count.result c.open_count.ensures c.held_count.ensures.table.ordered c.args.reach (c.held_count.result - c.open_count.result) c.growth.result left
    (subst (λ (l : Lock). is_open l.reach ≡ true → c.growth.result ≡ 1) c.lock.ensures c.growth.ensures.to_next_read)
    (subst (λ (l : Lock). is_open l.reach ≡ false → length (with_lock l c.args.self.now.held) ≡ length c.args.self.now.held + c.growth.result) c.lock.ensures c.growth.ensures.to_boundary)
