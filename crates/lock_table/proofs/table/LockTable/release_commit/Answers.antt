-- One open more is released.
use Rattle.std.proofs.Common.{List, get_or, ap, ◌∙◌}
use Rattle.lock_table.specs.declared.lock.Lock.{Lock}
use Rattle.lock_table.specs.Lock.{is_of_open}
use Rattle.lock_table.specs.Table.{Locks, freed, holding}
use Rattle.lock_table.proofs.Rules.{freed-none_yet, freed-one_more}
use Rattle.lock_table.proofs.table.LockTable.release_commit.Goals as goal

pub loop-opened-init : goal.loop-opened-init
loop-opened-init c = ap (λ (xs : List Lock). holding xs c.release_group.new.self) (freed-none_yet c.args.job c.release_group.new.self.held)

pub loop-opened-preserved : goal.loop-opened-preserved
loop-opened-preserved c =
    c.release_open.ensures
    ∙ ap (λ (t : Locks). holding (freed (is_of_open (record { job = c.args.job; opened = get_or c.args.opens.now c.loop-opened.opened-index 0 })) t.held) t) c.loop-opened.invariant
    ∙ ap (λ (xs : List Lock). holding xs c.release_group.new.self) (freed-one_more c.args.job c.args.opens.now c.loop-opened.opened-index 0 c.release_group.new.self.held c.loop-opened-test.true)
