use Rattle.std.proofs.Common.{List, ap, ◌∙◌}
use Rattle.lock_table.specs.declared.lock.Lock.{Lock}
use Rattle.lock_table.specs.Table.{holding}
use Rattle.lock_table.proofs.Rules.{freed-record}
use Rattle.lock_table.proofs.table.LockTable.release_record.Goals as goal

pub returns : goal.returns
returns c = c.free_part.ensures ∙ ap (λ (xs : List Lock). holding xs c.args.self.now) (freed-record c.args.job c.args.at c.args.self.now.held)
