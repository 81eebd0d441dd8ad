-- The locks of the opens so far are freed.
use Rattle.std.proofs.Common.{◌≡◌, take}
use Rattle.lock_table.specs.Lock.{is_of_opens}
use Rattle.lock_table.specs.Table.{freed, holding}
use Rattle.lock_table.proofs.Rules.{among}
use Rattle.lock_table.proofs.table.LockTable.release_commit.Given as goal

abbrev pub invariant-loop-opened : goal.invariant-loop-opened
invariant-loop-opened l = l.self ≡ holding (freed (is_of_opens l.job (among (take l.opened-index l.opens))) l.initial.self.held) l.initial.self
