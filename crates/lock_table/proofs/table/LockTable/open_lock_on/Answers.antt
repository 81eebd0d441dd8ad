use Rattle.std.proofs.Common.{refl, ◌==◌}
use Rattle.std.specs.List.{filter}
use Rattle.lock_table.specs.declared.lock.Lock.{Lock}
use Rattle.lock_table.specs.declared.lock.Reach.TheVariants.{Open}
use Rattle.lock_table.specs.declared.part.Part.TheVariants.{OnRecord}
use Rattle.lock_table.specs.Lock.{is_of_open_on}
use Rattle.lock_table.specs.Index.{is_part}
use Rattle.lock_table.proofs.Found.{part-open_on, run-some, run-none}
use Rattle.lock_table.proofs.table.LockTable.open_lock_on.Goals as goal

pub returns-clause-some : goal.returns-clause-some
returns-clause-some c =
    rw (← c.self.view_is)
    (run-some (is_part (OnRecord c.args.holder.job Open c.args.at)) (λ (l : Lock). l.opened == c.args.holder.opened) (is_of_open_on c.args.holder c.args.at) (part-open_on c.args.holder c.args.at) c.self.inside.locks (filter (is_part (OnRecord c.args.holder.job Open c.args.at)) c.self.inside.locks) c.first_in.result refl c.first_in.ensures)

pub returns-clause-none : goal.returns-clause-none
returns-clause-none c =
    rw (← c.self.view_is)
    (run-none (is_part (OnRecord c.args.holder.job Open c.args.at)) (λ (l : Lock). l.opened == c.args.holder.opened) (is_of_open_on c.args.holder c.args.at) (part-open_on c.args.holder c.args.at) c.self.inside.locks (filter (is_part (OnRecord c.args.holder.job Open c.args.at)) c.self.inside.locks) c.first_in.result refl c.first_in.ensures)
