use Rattle.std.proofs.Common.{List, ap, ◌∙◌}
use Rattle.lock_table.specs.declared.lock.Lock.{Lock}
use Rattle.lock_table.specs.Table.{holding}
use Rattle.lock_table.proofs.Rules.{freed-group}
use Rattle.lock_table.proofs.table.LockTable.release_group.Goals as goal

pub returns : goal.returns
returns c = c.free_part.ensures ∙ ap (λ (xs : List Lock). holding xs c.args.self.now) (freed-group c.args.job c.args.self.now.held)
