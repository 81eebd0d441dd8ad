use Rattle.std.proofs.Common.{arith}
use Rattle.restarted_journal.proofs.beginning.is_next.Goals as goal

pub returns-clause-next : goal.returns-clause-next
returns-clause-next c = λ is. let next = c.is_behind.ensures.next is in omega (arith, next, c.bounds-last.ensures.last, c.bounds-last.ensures.least)

pub returns-clause-few : goal.returns-clause-few
returns-clause-few c = λ is. let few = c.is_behind.ensures.few is in omega (arith, few, c.bounds-last.ensures.last)
