use Rattle.std.proofs.Common.{[], ◌∷◌}
use Rattle.journaled_entries.proofs.DepositedLemmas.{deposited-append, deposited-front, deposited-last}
use Rattle.journaled_entries.proofs.laws.entries_come_one_by_one.Goals as goal

pub returns-clause-next : goal.returns-clause-next
returns-clause-next c = λ entries e before may. deposited-append entries e before may

pub returns-clause-front : goal.returns-clause-front
returns-clause-front c = λ entries e are. deposited-front entries (e ∷ []) are

pub returns-clause-last : goal.returns-clause-last
returns-clause-last c = λ entries e are. deposited-last entries e are
