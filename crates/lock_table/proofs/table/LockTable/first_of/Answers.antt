use Rattle.std.proofs.Common.{true, refl}
use Rattle.std.specs.List.{filter}
use Rattle.lock_table.specs.declared.lock.Lock.{Lock}
use Rattle.lock_table.specs.Index.{is_part}
use Rattle.lock_table.proofs.Found.{and_true, run-some, run-none}
use Rattle.lock_table.proofs.table.LockTable.first_of.Goals as goal

pub returns-clause-some : goal.returns-clause-some
returns-clause-some c =
    rw (← c.self.view_is)
    (run-some (is_part c.args.part) (λ (l : Lock). true) (is_part c.args.part) (λ l. and_true (is_part c.args.part l)) c.self.inside.locks (filter (is_part c.args.part) c.self.inside.locks) c.first_in.result refl c.first_in.ensures)

pub returns-clause-none : goal.returns-clause-none
returns-clause-none c =
    rw (← c.self.view_is)
    (run-none (is_part c.args.part) (λ (l : Lock). true) (is_part c.args.part) (λ l. and_true (is_part c.args.part l)) c.self.inside.locks (filter (is_part c.args.part) c.self.inside.locks) c.first_in.result refl c.first_in.ensures)
