use Rattle.std.proofs.Common.{length, filter, ap, ◌∙◌}
use Rattle.lock_table.specs.Lock.{is_of_open}
use Rattle.lock_table.specs.Table.{Locks}
use Rattle.lock_table.proofs.Found.{count-open_part}
use Rattle.lock_table.proofs.table.LockTable.open_count.Goals as goal

pub returns : goal.returns
returns c = c.count_in.ensures ∙ count-open_part c.args.holder c.self.inside.locks ∙ ap (λ (t : Locks). length (filter (is_of_open c.args.holder) t.held)) c.self.view_is
