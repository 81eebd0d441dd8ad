-- The same lock to the next read goes, and the lock is counted once.
use Rattle.std.proofs.Common.{◌≡◌, ◌+◌, ◌-◌, false, length, refl, ap, ◌∙◌, subst}
use Rattle.lock_table.specs.declared.lock.Lock.{Lock}
use Rattle.lock_table.specs.declared.lock.Reach.TheVariants.{Open, Boundary}
use Rattle.lock_table.specs.Lock.{is_open, lock_by}
use Rattle.lock_table.specs.Table.{with_lock, without_lock}
use Rattle.lock_table.proofs.Counts.{count-turned}
use Rattle.lock_table.proofs.table.LockTable.count_to_boundary.Goals as goal

pub returns : goal.returns
returns c =
    let gone : length (without_lock (lock_by c.args.holder c.args.at c.args.kind Open) c.args.self.now.held) + c.shrinkage.result ≡ length c.args.self.now.held =
    subst (λ (l : Lock). length (without_lock l c.args.self.now.held) + c.shrinkage.result ≡ length c.args.self.now.held) c.lock-to_next_read.ensures c.shrinkage.ensures
    in
    let more : length (with_lock (lock_by c.args.holder c.args.at c.args.kind Boundary) c.args.self.now.held) ≡ length c.args.self.now.held + c.growth.result =
    subst (λ (l : Lock). is_open l.reach ≡ false → length (with_lock l c.args.self.now.held) ≡ length c.args.self.now.held + c.growth.result) c.lock-to_boundary.ensures c.growth.ensures.to_boundary refl
    in
    ap (λ n. (n - c.shrinkage.result) + c.growth.result) c.held_count.ensures.count
    ∙ count-turned c.args.holder c.args.at c.args.kind c.args.self.now.held c.held_count.ensures.table.ordered c.shrinkage.result c.growth.result gone more
